use Rattle.std.proofs.lemmas.Result.{err_from_is_err_and}
use Rattle.tt_collection.proofs.MemoryLemmas.{face_fault_is_of_bytes}
use Rattle.tt_collection.proofs.collection.Collection.face.Goals as goal

pub returns-in_err-directory-clause-memory : goal.returns-in_err-directory-clause-memory
returns-in_err-directory-clause-memory c =
    let p = err_from_is_err_and c.from_residual.result c.from_residual.ensures.1 in
    rw (p.1, p.2) (λ memory. absurd (face_fault_is_of_bytes c.args.number c.args.self.now.bytes.now c.in_err-directory.field-0.0 c.in_err-directory.ensures.fault memory))
