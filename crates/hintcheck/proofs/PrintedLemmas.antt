-- The last line of a verdict, by the first of the refused programs.
use Rattle.std.proofs.Common.{◌≡◌, ◌∙◌, ℕ, List, [], ◌∷◌, Option, Some, ap, length, subst, sym}
use Rattle.std.specs.Io.KnownBytes.{Appends}
use Rattle.std.specs.Prelude.{slice_get}
use Rattle.tt_setting.specs.declared.name.Name.{Name}
use Rattle.hintcheck_fonts.specs.declared.request.Request.{Request}
use Rattle.hintcheck.specs.Texts.{end_line, refused_line}
use Rattle.hintcheck_programs.specs.Verdicts.{Judgement}
use Rattle.hintcheck_report.specs.declared.refused.Refused.{Refused}

pub refused_end : (by : Request) (name : Name) (v : Judgement) (rs : List Refused) (r : Refused) (old new : Option (List ℕ)) → Some r ≡ slice_get rs 0 → rs ≡ v.refused → r.program ≡ name
    → Appends old new (refused_line by (length v.refused) v.programs name) → Appends old new (end_line by v.programs v.refused)
refused_end by name v rs r old new first same is written =
    subst (Appends old new) (sym (line v.refused (subst (λ (xs : List Refused). Some r ≡ slice_get xs 0) same first))) written
  where
    line : (xs : List Refused) → Some r ≡ slice_get xs 0 → end_line by v.programs xs ≡ refused_line by (length xs) v.programs name
    line [] e = cc
    line (x ∷ xs) e =
        let first_is : r ≡ x = cc in
        ap (refused_line by (length (x ∷ xs)) v.programs) (ap (λ (y : Refused). y.program) (sym first_is) ∙ is)
