use Rattle.std.proofs.Common.{◌≡◌, ℕ, [], ◌∷◌, refl, Some, ◌∙◌, ap, sym, true, subst}
use denote.Enum.Bare.{sameb}
use Rattle.tt_code.specs.contracts.block_keyword.BlockKeyword.{the_type}
use Rattle.tt_code.specs.declared.block_keyword.BlockKeyword.{BlockKeyword}
use Rattle.tt_code.specs.declared.block_keyword.BlockKeyword.TheVariants.{If, Else, Eif, Fdef, Idef, Endf, Other}
use Rattle.tt_code.specs.Cut.{Instruction, code_of}
use Rattle.tt_code.specs.Grammar.{GoesTo}
use Rattle.tt_code.specs.Representation.Slots.{target_found, targets}
use Rattle.tt_code.specs.Structure.{keyword, keyword_of}
use Rattle.tt_code.proofs.LookupLemmas.{goes_found, goes_only, goes_stands, one_stands}
use Rattle.tt_code.proofs.ProgramLemmas.{kept_each, kept_table}
use Rattle.tt_code.proofs.program.Program.look_up.Goals as goal

same_keyword : (a b : BlockKeyword) → sameb the_type a b ≡ true → a ≡ b
same_keyword If If h = refl
same_keyword If Else h = cc
same_keyword If Eif h = cc
same_keyword If Fdef h = cc
same_keyword If Idef h = cc
same_keyword If Endf h = cc
same_keyword If Other h = cc
same_keyword Else If h = cc
same_keyword Else Else h = refl
same_keyword Else Eif h = cc
same_keyword Else Fdef h = cc
same_keyword Else Idef h = cc
same_keyword Else Endf h = cc
same_keyword Else Other h = cc
same_keyword Eif If h = cc
same_keyword Eif Else h = cc
same_keyword Eif Eif h = refl
same_keyword Eif Fdef h = cc
same_keyword Eif Idef h = cc
same_keyword Eif Endf h = cc
same_keyword Eif Other h = cc
same_keyword Fdef If h = cc
same_keyword Fdef Else h = cc
same_keyword Fdef Eif h = cc
same_keyword Fdef Fdef h = refl
same_keyword Fdef Idef h = cc
same_keyword Fdef Endf h = cc
same_keyword Fdef Other h = cc
same_keyword Idef If h = cc
same_keyword Idef Else h = cc
same_keyword Idef Eif h = cc
same_keyword Idef Fdef h = cc
same_keyword Idef Idef h = refl
same_keyword Idef Endf h = cc
same_keyword Idef Other h = cc
same_keyword Endf If h = cc
same_keyword Endf Else h = cc
same_keyword Endf Eif h = cc
same_keyword Endf Fdef h = cc
same_keyword Endf Idef h = cc
same_keyword Endf Endf h = refl
same_keyword Endf Other h = cc
same_keyword Other If h = cc
same_keyword Other Else h = cc
same_keyword Other Eif h = cc
same_keyword Other Fdef h = cc
same_keyword Other Idef h = cc
same_keyword Other Endf h = cc
same_keyword Other Other h = refl

same_self : (w : BlockKeyword) → sameb the_type w w ≡ true
same_self If = refl
same_self Else = refl
same_self Eif = refl
same_self Fdef = refl
same_self Idef = refl
same_self Endf = refl
same_self Other = refl

-- an instruction's keyword is that of its code
keyword_is : (i : Instruction) (code : ℕ) → code_of i ≡ Some code → keyword i ≡ keyword_of code
unfolding keyword
keyword_is [] code e = cc
keyword_is (x ∷ rest) code e = let same : x ≡ code = cc in ap keyword_of same

pub returns-in_err-instruction-clause-only : goal.returns-in_err-instruction-clause-only
returns-in_err-instruction-clause-only c = λ to g. absurd (c.in_err-instruction.ensures.none _ (goes_stands _ _ _ to g))

pub returns-in_err-instruction-clause-none : goal.returns-in_err-instruction-clause-none
returns-in_err-instruction-clause-none c = rw c.from_residual-in_err-instruction.ensures (λ i stands same. c.in_err-instruction.ensures.none i stands)

pub returns-then-eq-clause-found : goal.returns-then-eq-clause-found
returns-then-eq-clause-found c =
    let each = kept_each _ _ _ c.self.invariant c.self.view_is in
    let table = kept_table _ _ _ c.self.invariant c.self.view_is in
    let equal : c.keyword_of_code.result ≡ c.args.opener = same_keyword _ _ (sym c.eq.ensures ∙ c.if-eq.true) in
    let is_keyword : keyword c.in_ok-instruction.instruction ≡ c.args.opener = keyword_is _ _ c.code.ensures ∙ sym c.keyword_of_code.ensures ∙ equal in
    let target : target_found (targets c.self.inside.slots.items) c.args.offset ≡ Some c.in_ok-target.target =
    ap (λ t. target_found (targets t) c.args.offset) (sym c.deref.ensures.value) ∙ sym c.target_of.ensures ∙ c.in_ok-target.was in
    subst (λ w. GoesTo w c.args.self.now c.args.offset c.in_ok-target.target) is_keyword (goes_found c.args.self.now _ _ c.args.offset _ c.in_ok-instruction.instruction each table c.in_ok-instruction.ensures.found target)

pub returns-then-eq-clause-only : goal.returns-then-eq-clause-only
returns-then-eq-clause-only c = λ to g.
    let each = kept_each _ _ _ c.self.invariant c.self.view_is in
    let table = kept_table _ _ _ c.self.invariant c.self.view_is in
    sym c.in_ok-target.was ∙ c.target_of.ensures ∙ ap (λ t. target_found (targets t) c.args.offset) c.deref.ensures.value ∙ goes_only c.args.self.now _ _ c.args.offset to c.args.opener each table g

pub returns-else-eq-clause-only : goal.returns-else-eq-clause-only
returns-else-eq-clause-only c = λ to g.
    let each = kept_each _ _ _ c.self.invariant c.self.view_is in
    let same : c.in_ok-instruction.instruction ≡ g.i = one_stands c.args.self.now c.args.offset _ _ each c.in_ok-instruction.ensures.found (goes_stands _ _ _ to g) in
    let is_keyword : c.keyword_of_code.result ≡ c.args.opener = c.keyword_of_code.ensures ∙ sym (keyword_is _ _ c.code.ensures) ∙ ap keyword same ∙ g.opens in
    let yes : sameb the_type c.keyword_of_code.result c.args.opener ≡ true = ap (λ w. sameb the_type w c.args.opener) is_keyword ∙ same_self c.args.opener in
    let wrong = sym c.if-eq.false ∙ c.eq.ensures ∙ yes in cc

pub returns-else-eq-clause-none : goal.returns-else-eq-clause-none
returns-else-eq-clause-none c = λ i stands is.
    let each = kept_each _ _ _ c.self.invariant c.self.view_is in
    let same : c.in_ok-instruction.instruction ≡ i = one_stands c.args.self.now c.args.offset _ _ each c.in_ok-instruction.ensures.found stands in
    let is_keyword : c.keyword_of_code.result ≡ c.args.opener = c.keyword_of_code.ensures ∙ sym (keyword_is _ _ c.code.ensures) ∙ ap keyword same ∙ is in
    let yes : sameb the_type c.keyword_of_code.result c.args.opener ≡ true = ap (λ w. sameb the_type w c.args.opener) is_keyword ∙ same_self c.args.opener in
    let wrong = sym c.if-eq.false ∙ c.eq.ensures ∙ yes in cc
