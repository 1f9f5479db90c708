-- The needs that are listed one after the other.
use Rattle.std.proofs.Common.{◌∙◌, ◌≡◌, ℕ, ◌+◌, ◌<◌, ◌++◌, ◌∷◌, [], List, ap, get_or, length, map, subst, sym, take}
use Rattle.std.specs.List.{All}
use Rattle.std.proofs.lemmas.List.{map-append, take_more}
use Rattle.std.proofs.lemmas.List.Elements.{All-push}
use Rattle.tt_font.specs.Reading.{FontData}
use Rattle.hintcheck_report.specs.declared.bound.Bound.{Bound}
use Rattle.hintcheck_fonts.specs.declared.request.Request.{Request}
use Rattle.hintcheck_needs.specs.Needs.{IsNeed}
use Rattle.hintcheck_needs.specs.declared.font_needs.Need.{Need}

-- one more need is of the next number
pub one_more_told : (bounds : List Bound) (told : ℕ) (needs more : List Need) (need : Need)
    → more ≡ needs ++ (need ∷ []) → map (λ (n : Need). n.bound) needs ≡ take told bounds
    → told < length bounds → need.bound ≡ get_or bounds told need.bound
    → map (λ (n : Need). n.bound) more ≡ take (told + 1) bounds
one_more_told bounds told needs more need is before lt bound =
    ap (map (λ (n : Need). n.bound)) is ∙ (map-append (λ (n : Need). n.bound) needs (need ∷ [])
    ∙ (ap (λ (l : List Bound). l ++ (need.bound ∷ [])) before
    ∙ (ap (λ (b : Bound). take told bounds ++ (b ∷ [])) bound
    ∙ sym (take_more bounds told need.bound lt))))

-- each one that is listed is a need
pub one_more_need : (request : Request) (d : FontData) (needs more : List Need) (need : Need)
    → more ≡ needs ++ (need ∷ []) → All (IsNeed request d) needs → IsNeed request d need
    → All (IsNeed request d) more
one_more_need request d needs more need is all one =
    subst (All (IsNeed request d)) (sym is) (All-push (IsNeed request d) needs need all one)
