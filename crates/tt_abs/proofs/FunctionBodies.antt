-- Each function that a derived state lists has its body in the font program or in the CVT program.
use Rattle.std.specs.Prelude.{◌≡◌, ℕ, ◌+◌, ◌<◌, ◌^◌, Bool, true, false, List, [], ◌∷◌, Some, Option, nat_eq, nat_lt, if◌then◌else◌}
use Rattle.std.proofs.Common.{refl, sym, ◌∙◌, ap, subst}
use Rattle.tt_code.specs.Control.{may_define}
use Rattle.tt_code.specs.Cut.{Instruction}
use Rattle.tt_code.specs.Grammar.{GoesTo}
use Rattle.tt_code.specs.Settings.{Setting, Kind, FontProgram, CvtProgram, GlyphProgram, CVT_BODIES, body_name, body_of, body_offset, is_body, program_of}
use Rattle.tt_code.specs.Structure.{after_fdef, body_at}
use Rattle.tt_code.specs.declared.machine.Body.{Body}
use Rattle.tt_code.specs.declared.machine.Body.TheVariants as body
use Rattle.tt_code.specs.declared.machine.Frame.{Frame}
use Rattle.tt_code.specs.declared.block_keyword.BlockKeyword.TheVariants.{Fdef}
use Rattle.tt_code.proofs.DefinitionLemmas.{definition_in_main}
use Rattle.tt_code.proofs.LookupLemmas.{goes_stands}
use Rattle.tt_code.proofs.StructureLaws.{leads_iff_goes}
use Rattle.tt_abs.specs.declared.cells.Cell.{Cell}
use Rattle.tt_abs.specs.declared.state.State.{State}
use Rattle.tt_abs.specs.Cells.{Abstract}
use Rattle.tt_setting.specs.Entries.{listed, with_entry}
use Rattle.tt_setting.specs.EntryLaws.{listed-with}
use Rattle.tt_abs.specs.Families.{Derived, started, moved, joined}
use Rattle.tt_abs.specs.FunctionBodies.{AreFunctionBodies, AreProgramsOfFont, IsFunctionBody, RunsAsItsKind, of_cvt_program, of_font_program}
use Rattle.tt_setting.specs.Ranges.{AreProgramsShort}
use Rattle.tt_abs.specs.StateFlow.{Place, flow_of}
use Rattle.tt_abs.specs.States.{abstract_of, state_order}
use Rattle.tt_abs.specs.Transfers.{Next}
use Rattle.tt_abs.proofs.ListsKept.{DefinesAt, lists_kept}
use Rattle.tt_abs.proofs.StateParts.{one_of_all}

module _ (s : Setting) (programs : AreProgramsOfFont s) where
  -- What an FDEF defines.

  -- no FDEF is in a function of the font program
  not_in_function : (at to first : ℕ) → is_body (body.Function first) (body_at s.font at) ≡ true → after_fdef s.font at ≡ Some to → ⊥
  not_in_function at to first starts leads =
      let g : GoesTo Fdef s.font at to = (leads_iff_goes programs.structured programs.each tt).0 leads in
      let main : body_at s.font at ≡ Some body.Main = definition_in_main s.font at g.i programs.structured programs.each (goes_stands Fdef s.font at to g) g.opens in
      let no_such : true ≡ false = sym starts ∙ ap (λ (b : Option Body). is_body (body.Function first) b) main in
      cc

  -- where all programs are one, a body's program is the font program
  of_one : (fs : List Frame) → s.font ≡ s.main → s.prep ≡ s.main → program_of s fs ≡ s.font
  of_one [] font prep = sym font
  of_one (f ∷ fs) font prep = go (nat_lt f.body CVT_BODIES)
    where
      go : (b : Bool) → (if b then s.font else s.prep) ≡ s.font
      go true = refl
      go false = prep ∙ sym font

  -- and else an FDEF is in the CVT program
  of_cvt : (fs : List Frame) (at to : ℕ) → s.prep ≡ s.main → is_body (body_of fs) (body_at (program_of s fs) at) ≡ true → after_fdef (program_of s fs) at ≡ Some to → after_fdef s.prep at ≡ Some to
  of_cvt [] at to prep starts leads = ap (λ (is : List Instruction). after_fdef is at) prep ∙ leads
  of_cvt (f ∷ fs) at to prep starts leads = go (nat_lt f.body CVT_BODIES) starts leads
    where
      go : (b : Bool) → is_body (body.Function (body_offset f.body)) (body_at (if b then s.font else s.prep) at) ≡ true → after_fdef (if b then s.font else s.prep) at ≡ Some to → after_fdef s.prep at ≡ Some to
      go true starts leads = absurd (not_in_function at to (body_offset f.body) starts leads)
      go false starts leads = leads

  defined_body : (offset : ℕ) → DefinesAt s offset → IsFunctionBody s (body_name s.kind offset)
  defined_body offset h = subst (λ (n : ℕ). IsFunctionBody s (body_name s.kind n)) (sym h.behind) (go s.kind programs.main h.may)
    where
      go : (k : Kind) → RunsAsItsKind s k → may_define k ≡ true → IsFunctionBody s (body_name k (h.at + 1))
      go FontProgram (font, prep) may = of_font_program h.at h.to (sym (ap (λ (is : List Instruction). after_fdef is h.at) (of_one h.frames font prep)) ∙ h.leads)
      go CvtProgram prep may = of_cvt_program h.at h.to (of_cvt h.frames h.at h.to prep h.starts h.leads)
      go (GlyphProgram points contours) k may = absurd (cc)

  -- What is listed.

  abbrev HasBodies : List (ℕ × ℕ) → (ℕ → Cell) → Type 0
  HasBodies functions area = AreFunctionBodies s functions

  bodies_defined : (functions : List (ℕ × ℕ)) (area : ℕ → Cell) (n offset : ℕ) → AreFunctionBodies s functions → n < s.limits.functions → offset < 2 ^ 31 → DefinesAt s offset
      → AreFunctionBodies s (with_entry n (body_name s.kind offset) functions)
  bodies_defined functions area n offset h lt small defines m body l = go (nat_eq n m) (sym (listed-with n (body_name s.kind offset) functions m) ∙ l)
    where
      go : (b : Bool) → (if b then Some (body_name s.kind offset) else listed functions m) ≡ Some body → IsFunctionBody s body
      go true e = let is : body_name s.kind offset ≡ body = cc in subst (λ (x : ℕ). IsFunctionBody s x) is (defined_body offset defines)
      go false e = h m body e

  -- where the start's functions have such bodies, so have those of each derived state
  pub derived_bodies : (functions : List (ℕ × ℕ)) → AreProgramsShort s → AreFunctionBodies s functions → (p : Place) (a : State) → Derived state_order (flow_of s functions) p a → AreFunctionBodies s a.functions
  derived_bodies functions short h p a started = h
  derived_bodies functions short h p a (moved q r b t d free g) =
      let before : AreFunctionBodies s b.functions = derived_bodies functions short h q b d in
      let kept : AreFunctionBodies s g.next.state.functions =
      one_of_all (λ (n : Next). AreFunctionBodies s n.state.functions) g.nexts g.index g.next
      (lists_kept s HasBodies bodies_defined (λ functions area i c k _. k) q.0 q.1 (abstract_of b) g.nexts short before g.result) g.found in
      subst (λ (x : Abstract). AreFunctionBodies s x.functions) (sym g.state_is) kept
  derived_bodies functions short h p a (joined q b c d db dc least) =
      let before : AreFunctionBodies s b.functions = derived_bodies functions short h q b db in
      λ n body l. before n body (least.left.1.1.0 n body l)
