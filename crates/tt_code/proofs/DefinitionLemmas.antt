-- FDEF is only in the main program.
use Rattle.std.proofs.Common.{◌≡◌, inl, inr, ℕ, ◌+◌, List, [], ◌∷◌, refl, sym, ◌∙◌, ap, subst, Some, Option}
use Rattle.std.specs.List.{AllByRecursion}
use Rattle.tt_code.specs.declared.block_keyword.BlockKeyword.TheVariants.{Fdef}
use Rattle.tt_code.specs.declared.nest.Open.{Open}
use Rattle.tt_code.specs.declared.nest.Open.TheVariants.{InFunction, InInstruction}
use Rattle.tt_code.specs.declared.machine.Body.TheVariants as body
use Rattle.tt_code.specs.Cut.{Instruction, IsInstruction, size}
use Rattle.tt_code.specs.Structure.{body_at, keyword}
use Rattle.tt_code.specs.Grammar.{IsBodyAt, IsStructured, IsInstructionAt}
use Rattle.tt_code.specs.Representation.Pass.{body_of, follow, step, steps, within}
use Rattle.tt_code.proofs.NestingLemmas.{steps-append, whole_steps, within-false, within_main}
use Rattle.tt_code.proofs.BodyLemmas.{first_step, inside_body, way_to}
use Rattle.tt_code.proofs.StructureLawsOfBodies.{body_is}

-- the body of an FDEF is the main program
pub definition_in_main : (is : List Instruction) (at : ℕ) (i : Instruction) → IsStructured is → AllByRecursion IsInstruction is → IsInstructionAt is at i → keyword i ≡ Fdef → body_at is at ≡ Some body.Main
definition_in_main is at i structured each stands defines = body_is body.Main structured each stands outside
  where
    way : (s : List Open) × (steps stands.before 0 [] ≡ Some s)
    way = way_to is at i structured stands

    through : steps (i ∷ stands.after) (0 + size stands.before) way.0 ≡ Some []
    through =
        sym (ap (λ (r : Option (List Open)). follow r (λ t. steps (i ∷ stands.after) (0 + size stands.before) t)) way.1)
        ∙ sym (steps-append stands.before (i ∷ stands.after) 0 []) ∙ sym (ap (λ (x : List Instruction). steps x 0 []) stands.whole) ∙ whole_steps structured

    in_main : body_of way.0 ≡ body.Main
    in_main =
        let (u, first, _) = first_step i stands.after (0 + size stands.before) way.0 [] through in
        let opens : step Fdef (0 + size stands.before) way.0 ≡ Some u = subst (λ w. step w (0 + size stands.before) way.0 ≡ Some u) defines first in
        within_main way.0 (within-false (within way.0) (InFunction (0 + size stands.before)) way.0 u opens).0

    outside : IsBodyAt is at body.Main
    outside = (
      λ from d. let m = in_main in let e = inside_body is at i way.0 each stands way.1 (InFunction from) from refl (inl refl) d in cc,
      λ from d. let m = in_main in let e = inside_body is at i way.0 each stands way.1 (InInstruction from) from refl (inr refl) d in cc,
    )
