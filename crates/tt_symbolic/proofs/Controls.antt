-- Control instructions on a state.
use Rattle.std.proofs.Common.{◌≡◌, ℕ, zero, suc, ◌+◌, ◌<◌, ◌≤◌, ℤ, pos, negsuc, ◌+ℤ◌, ◌-ℤ◌, ◌≤ℤ◌, List, [], ◌∷◌, ◌++◌, reverse, Ok, Some, Bool, true, false, not, nat_lt, nat_le, refl, sym, ◌∙◌, ap, subst, arith, length, get_or}
use Rattle.std.specs.Prelude.{Option, None, MatchOption}
use Rattle.std.specs.Option.{option_to_list}
use mathlib.Core.Bool.{beq}
use Rattle.std.proofs.lemmas.Int.{ints}
use Rattle.std.proofs.lemmas.List.{length-map, reverse-append}
use Rattle.std.proofs.lemmas.Bool.{leb-false, ltb-false, ltb-true}
use Rattle.tt_code.specs.Refusals.{Tested}
use Rattle.tt_code.specs.Structure.{after_if, after_else, after_fdef}
use Rattle.tt_code.specs.Settings.{Setting as MachineSetting, is_target, body_name, body_offset, program_of, starts_in_body}
use Rattle.tt_code.specs.States.{Machine, Outcome, leaves, is_below, is_true}
use Rattle.tt_code.specs.Control.{called, controlled, body_named, enters, goes_to, jumps_if, may_define, returns}
use Rattle.tt_code.specs.declared.machine.Frame.{Frame}
use Rattle.tt_code.specs.declared.kinds.Control.TheVariants as control
use Rattle.tt_setting.specs.declared.setting.Setting.{Setting}
use Rattle.tt_setting.specs.declared.setting.Point.{Point}
use Rattle.tt_setting.specs.Functions.{CoversFunctions}
use Rattle.tt_setting.specs.Entries.{listed, with_entry}
use Rattle.tt_setting.specs.EntryLaws.{listed-named}
use Rattle.tt_setting.specs.Settings.{frames_of, setting_of}
use Rattle.tt_symbolic_state.specs.declared.cell.Cell.{Cell}
use Rattle.tt_symbolic_state.specs.Values.{Fits, Valuation, value}
use Rattle.tt_symbolic_state.specs.declared.state.OpenCall.{OpenCall}
use Rattle.tt_symbolic_state.specs.declared.state.State.{State}
use Rattle.tt_symbolic_state.specs.Shows.{Shows, ShowsCall, ShowsCalls, more, none, values}
use Rattle.tt_symbolic.specs.Representation.Leading.{Closes, GoesTo, IsAt, IsKnownFunction, JumpsIf, JumpsTo, Leads, Opens, Repeats, SameBody, is_asked}
use Rattle.tt_symbolic.specs.Sound.{IsShownBy, Pops, Sound, keeps_controls}
use Rattle.tt_symbolic.proofs.AreaFacts.{eq_other, eq_same, listed_here, listed_there, split_at}
use Rattle.tt_symbolic.proofs.Works.{moves_fits, moves_shows, pops_shows, pops_fits, same_controls}

-- the frame, if there is one, as the frames of a point
pub at_frames : (frame : Option Frame) (frames : List Frame) (calls : List OpenCall) → MatchOption frame (frames ≡ []) (λ f. frames ≡ f ∷ []) → SameBody (option_to_list frame) calls → SameBody (reverse frames) calls
at_frames None frames calls is same = subst (λ (fs : List Frame). SameBody (reverse fs) calls) (sym is) same
at_frames (Some f) frames calls is same = subst (λ (fs : List Frame). SameBody (reverse fs) calls) (sym is) same

-- a frame of the last call's body, as the frames of a point
pub last_frame : (f : Frame) (c : OpenCall) (outer calls : List OpenCall) → f.body ≡ c.body → calls ≡ outer ++ c ∷ [] → SameBody (f ∷ []) (reverse calls)
last_frame f c outer calls same is = subst (λ (l : List OpenCall). SameBody (f ∷ []) l) (sym (ap reverse is ∙ reverse-append outer (c ∷ []))) same

-- What depends on the frames is the same where the same body runs.

record SamePlace (s : MachineSetting) (fs gs : List Frame) : Type 0 where
  program : program_of s fs ≡ program_of s gs
  starts : (o : ℕ) → starts_in_body s fs o ≡ starts_in_body s gs o
  target : (z : ℤ) → is_target s fs z ≡ is_target s gs z

same_none : (s : MachineSetting) (gs : List Frame) → SameBody gs [] → SamePlace s [] gs
same_none s [] same = record { program = refl; starts = λ o. refl; target = λ z. refl }
same_none s (g ∷ gs) same = absurd same

same_more : (s : MachineSetting) (c : OpenCall) (cs : List OpenCall) (f : Frame) (fs gs : List Frame) → f.body ≡ c.body → SameBody gs (c ∷ cs) → SamePlace s (f ∷ fs) gs
same_more s c cs f fs [] e same = absurd same
same_more s c cs f fs (g ∷ gs) e same =
    let b : f.body ≡ g.body = e ∙ sym same in
    record { program = rw b refl; starts = λ o. rw b refl; target = same_target b }
  where
    same_target : f.body ≡ g.body → (z : ℤ) → is_target s (f ∷ fs) z ≡ is_target s (g ∷ gs) z
    same_target b (pos n) = rw b refl
    same_target b (negsuc n) = refl

same_place : (s : MachineSetting) (v : Valuation) (cs : List OpenCall) (fs gs : List Frame) → ShowsCalls v cs fs → SameBody gs cs → SamePlace s fs gs
same_place s v cs fs gs none same = same_none s gs same
same_place s v cs fs gs (more c calls f frames h hs) same = same_more s c calls f frames gs h.body_is same

pub starts_there : (s : MachineSetting) (v : Valuation) (point : Point) (a : State) (m : Machine) (controls : ℕ → ℤ) → IsAt point a → Shows v a m controls → (starts_in_body s m.frames m.offset ≡ starts_in_body s (frames_of point) m.offset) × (program_of s m.frames ≡ program_of s (frames_of point))
starts_there s v point a m controls at h = let p = same_place s v (reverse a.calls.items) m.frames (frames_of point) h.calls at.same_body in (p.starts m.offset, p.program)

-- What leaves the stack of the new state, and a machine that it shows.

record Left (result : Tested Outcome) (v : Valuation) (new : State) (controls : ℕ → ℤ) : Type 0 where
  n : Machine
  goes : result ≡ Ok (leaves n (values v new.stack) [])
  shown : IsShownBy v new (record n { stack = values v new.stack }) controls

leads_sound : (does : Machine → Tested Outcome) (old new : State)
    → ((v : Valuation) (m : Machine) (controls : ℕ → ℤ) → Fits old.ranges.items v → Shows v old m controls → m.offset ≡ old.offset → Left (does m) v new controls) → Sound does keeps_controls old new
leads_sound does old new h = record {
  sound = λ m controls a.
      let l = h a.valuation m controls a.fits a.shows a.offset_is in
      record {
        after = leaves l.n (values a.valuation new.stack) [];
        goes = l.goes;
        deep = let n = length-map new.stack (value a.valuation) in omega arith;
        into = λ choices controls' numbers keeps.
            let s = same_controls a.valuation new _ controls controls' keeps l.shown.shows in
            record {
              valuation = a.valuation;
              fits = l.shown.fits;
              shows = record { calls = s.calls; stack = s.stack; graphics = s.graphics; storage = s.storage; controls_are = s.controls_are; functions = s.functions };
              offset_is = l.shown.offset_is;
            };
      };
}

-- to an offset of the same body
goto_left : (result : Tested Outcome) (v : Valuation) (low new : State) (m : Machine) (controls : ℕ → ℤ) (to : ℕ) → result ≡ Ok (goes_to m (values v low.stack) to) → GoesTo to low new → Fits low.ranges.items v
    → Shows v low (record m { stack = values v low.stack }) controls → Left result v new controls
goto_left result v low new m controls to is g fits h =
    let same : values v new.stack ≡ values v low.stack = ap (λ (a : State). values v a.stack) g.same in
    record {
      n = record m { offset = to };
      goes = is ∙ ap (λ (l : List ℤ). Ok (goes_to m l to)) (sym same);
      shown = record {
        fits = moves_fits v low new g.same fits;
        shows = moves_shows v low new (record m { stack = values v low.stack }) controls (values v new.stack) to g.same same h;
        offset_is = sym g.offset_is;
      };
    }

same_stack : (v : Valuation) (a : State) (m : Machine) (controls : ℕ → ℤ) → Shows v a m controls → Shows v a (record m { stack = values v a.stack }) controls
same_stack v a m controls h = record { calls = h.calls; stack = refl; graphics = h.graphics; storage = h.storage; controls_are = h.controls_are; functions = h.functions }

le_true : (a b : ℕ) → a ≤ b → nat_le a b ≡ true
le_true a b h = go (nat_le a b) refl
  where
    go : (x : Bool) → nat_le a b ≡ x → x ≡ true
    go true e = refl
    go false e = let w = leb-false a b e in absurd (omega arith)

lt_true : (a b : ℕ) → a < b → nat_lt a b ≡ true
lt_true a b h = go (nat_lt a b) refl
  where
    go : (x : Bool) → nat_lt a b ≡ x → x ≡ true
    go true e = refl
    go false e = let w = ltb-false a b e in absurd (omega arith)

lt_false : (a b : ℕ) → b ≤ a → nat_lt a b ≡ false
lt_false a b h = go (nat_lt a b) refl
  where
    go : (x : Bool) → nat_lt a b ≡ x → x ≡ false
    go true e = let w = ltb-true a b e in absurd (omega arith)
    go false e = refl

pub asked_true : (b h : Bool) (z : ℤ) → is_true z ≡ h → h ≡ b → is_asked b z ≡ true
asked_true true h z e f = e ∙ f
asked_true false h z e f = ap not (e ∙ f)

pub asked_false : (b h : Bool) (z : ℤ) → is_true z ≡ h → (h ≡ b → ⊥) → is_asked b z ≡ false
asked_false true true z e f = absurd (f refl)
asked_false true false z e f = e
asked_false false true z e f = ap not e
asked_false false false z e f = absurd (f refl)

module _ (setting : Setting) (point : Point) (old : State) (at : IsAt point old) where
  here : (v : Valuation) (m : Machine) (controls : ℕ → ℤ) → Shows v old m controls → SamePlace (setting_of setting) m.frames (frames_of point)
  here v m controls h = same_place (setting_of setting) v (reverse old.calls.items) m.frames (frames_of point) h.calls at.same_body

  pub if_true : (low new : State) (cell : Cell) (next : ℕ) → Pops old low cell → ((v : Valuation) → Fits low.ranges.items v → is_true (value v cell) ≡ true) → next ≡ point.offset + 1 → GoesTo next low new → Leads setting control.If old new
  if_true low new cell next p truth e g = leads_sound (λ m. controlled (setting_of setting) m control.If) old new (λ v m controls fits s o.
      let (is, shows) = pops_shows v old low cell m controls p s in
      let fits' = pops_fits v old low cell p fits in
      let n : m.offset + 1 ≡ next = ap (λ (k : ℕ). k + 1) (o ∙ sym at.offset_is) ∙ sym e in
      goto_left (controlled (setting_of setting) m control.If) v low new m controls next (rw (is, truth v fits', n) refl) g fits' shows)

  pub if_false : (low new : State) (cell : Cell) (to : ℕ) → Pops old low cell → ((v : Valuation) → Fits low.ranges.items v → is_true (value v cell) ≡ false) → after_if (program_of (setting_of setting) (frames_of point)) point.offset ≡ Some to → GoesTo to low new → Leads setting control.If old new
  if_false low new cell to p truth e g = leads_sound (λ m. controlled (setting_of setting) m control.If) old new (λ v m controls fits s o.
      let (is, shows) = pops_shows v old low cell m controls p s in
      let fits' = pops_fits v old low cell p fits in
      let f : after_if (program_of (setting_of setting) m.frames) m.offset ≡ Some to = rw ((here v m controls s).program, o, ← at.offset_is) e in
      goto_left (controlled (setting_of setting) m control.If) v low new m controls to (rw (is, truth v fits', f) refl) g fits' shows)

  pub else_leads : (new : State) (to : ℕ) → after_else (program_of (setting_of setting) (frames_of point)) point.offset ≡ Some to → GoesTo to old new → Leads setting control.Else old new
  else_leads new to e g = leads_sound (λ m. controlled (setting_of setting) m control.Else) old new (λ v m controls fits s o.
      let f : after_else (program_of (setting_of setting) m.frames) m.offset ≡ Some to = rw ((here v m controls s).program, o, ← at.offset_is) e in
      goto_left (controlled (setting_of setting) m control.Else) v old new m controls to (rw (f, s.stack) refl) g fits (same_stack v old m controls s))

  pub jump_leads : (low new : State) (cell : Cell) (by : ℤ) (to : ℕ) → Pops old low cell → ((v : Valuation) → Fits low.ranges.items v → value v cell ≡ by) → length low.stack ≤ setting.limits.stack → JumpsTo setting point by to → GoesTo to low new
      → Leads setting control.Jump old new
  jump_leads low new cell by to p known deep j g = leads_sound (λ m. controlled (setting_of setting) m control.Jump) old new (λ v m controls fits s o.
      let (is, shows) = pops_shows v old low cell m controls p s in
      let fits' = pops_fits v old low cell p fits in
      let same : m.offset ≡ point.offset = o ∙ sym at.offset_is in
      let d : nat_le (length (values v low.stack)) setting.limits.stack ≡ true = rw (length-map low.stack (value v)) (le_true (length low.stack) setting.limits.stack deep) in
      let t : is_target (setting_of setting) m.frames (pos m.offset +ℤ value v cell) ≡ true = rw (same, known v fits') ((here v m controls s).target _ ∙ j.allowed) in
      let q : pos m.offset +ℤ value v cell ≡ pos to = rw (same, known v fits') j.target in
      goto_left (controlled (setting_of setting) m control.Jump) v low new m controls to (rw (is, d, t, q) refl) g fits' shows)

  module _ (asked : Bool) (middle low : State) (top cell : Cell) (p : Pops old middle top) (q : Pops middle low cell) where
    both : (v : Valuation) (m : Machine) (controls : ℕ → ℤ) → Shows v old m controls → (m.stack ≡ value v top ∷ value v cell ∷ values v low.stack) × Shows v low (record m { stack = values v low.stack }) controls
    both v m controls s =
        let (is, shows) = pops_shows v old middle top m controls p s in
        let (is', shows') = pops_shows v middle low cell (record m { stack = values v middle.stack }) controls q shows in
        (is ∙ ap (λ (l : List ℤ). value v top ∷ l) is', shows')

    fits_low : (v : Valuation) → Fits old.ranges.items v → Fits low.ranges.items v
    fits_low v fits = pops_fits v middle low cell q (pops_fits v old middle top p fits)

    pub jumps : (new : State) (h : Bool) (by : ℤ) (to : ℕ) → ((v : Valuation) → Fits low.ranges.items v → is_true (value v top) ≡ h) → h ≡ asked → ((v : Valuation) → Fits low.ranges.items v → value v cell ≡ by) → length low.stack ≤ setting.limits.stack → JumpsTo setting point by to → GoesTo to low new
        → JumpsIf setting asked old new
    jumps new h by to truth e known deep j g = leads_sound (λ m. jumps_if (setting_of setting) m (is_asked asked)) old new (λ v m controls fits s o.
        let (is, shows) = both v m controls s in
        let fits' = fits_low v fits in
        let same : m.offset ≡ point.offset = o ∙ sym at.offset_is in
        let a : is_asked asked (value v top) ≡ true = asked_true asked h (value v top) (truth v fits') e in
        let d : nat_le (length (values v low.stack)) setting.limits.stack ≡ true = rw (length-map low.stack (value v)) (le_true (length low.stack) setting.limits.stack deep) in
        let t : is_target (setting_of setting) m.frames (pos m.offset +ℤ value v cell) ≡ true = rw (same, known v fits') ((here v m controls s).target _ ∙ j.allowed) in
        let k : pos m.offset +ℤ value v cell ≡ pos to = rw (same, known v fits') j.target in
        goto_left (jumps_if (setting_of setting) m (is_asked asked)) v low new m controls to (rw (is, a, d, t, k) refl) g fits' shows)

    pub passes : (new : State) (h : Bool) (next : ℕ) → ((v : Valuation) → Fits low.ranges.items v → is_true (value v top) ≡ h) → (h ≡ asked → ⊥) → next ≡ point.offset + 1 → GoesTo next low new → JumpsIf setting asked old new
    passes new h next truth e n g = leads_sound (λ m. jumps_if (setting_of setting) m (is_asked asked)) old new (λ v m controls fits s o.
        let (is, shows) = both v m controls s in
        let fits' = fits_low v fits in
        let k : m.offset + 1 ≡ next = ap (λ (i : ℕ). i + 1) (o ∙ sym at.offset_is) ∙ sym n in
        let a : is_asked asked (value v top) ≡ false = asked_false asked h (value v top) (truth v fits') e in
        goto_left (jumps_if (setting_of setting) m (is_asked asked)) v low new m controls next (rw (is, a, k) refl) g fits' shows)

-- Calls.

called_is : (setting : Setting) (v : Valuation) (a : State) (m : Machine) (controls : ℕ → ℤ) (n body : ℕ) → Shows v a m controls → IsKnownFunction setting a.functions n body → called (setting_of setting) m (pos n) ≡ Ok body
called_is setting v a m controls n body s k =
    let l : nat_lt n setting.limits.functions ≡ true = lt_true n setting.limits.functions k.low in
    let f : body_named m.functions n ≡ Some body = s.functions n body k.found in
    rw (l, f) refl

-- the call that is opened
opened : (v : Valuation) (low new : State) (m : Machine) (controls : ℕ → ℤ) (call : OpenCall) (frame : Frame) → Opens call low new → ShowsCall v call frame → Fits low.ranges.items v → Shows v low (record m { stack = values v low.stack }) controls
    → IsShownBy v new (record m { frames = frame ∷ m.frames; offset = body_offset call.body; stack = values v new.stack }) controls
opened v low new m controls call frame o c fits h = record {
  fits = let F : State → Type 0 = λ a. Fits a.ranges.items v in subst F (sym o.same) fits;
  shows =
      let S : State → Type 0 = λ a. ShowsCalls v (reverse a.calls.items) (frame ∷ m.frames) → Shows v a (record m { frames = frame ∷ m.frames; offset = body_offset call.body; stack = values v a.stack }) controls in
      subst S (sym o.same) (λ cs. record { calls = cs; stack = refl; graphics = h.graphics; storage = h.storage; controls_are = h.controls_are; functions = h.functions })
      (subst (λ (l : List OpenCall). ShowsCalls v (reverse l) (frame ∷ m.frames)) (sym o.calls) (subst (λ (l : List OpenCall). ShowsCalls v l (frame ∷ m.frames)) (sym (reverse-append low.calls.items (call ∷ []))) (more call (reverse low.calls.items) frame m.frames c h.calls)));
  offset_is = sym o.offset_is;
}

opened_stack : (low new : State) (call : OpenCall) → Opens call low new → new.stack ≡ low.stack
opened_stack low new call o = ap (λ (a : State). a.stack) o.same

pub call_leads : (setting : Setting) (old low new : State) (cell : Cell) (z : ℤ) (call : OpenCall) → Pops old low cell → ((v : Valuation) → Fits low.ranges.items v → value v cell ≡ z) → (n : ℕ) × (z ≡ pos n) × IsKnownFunction setting low.functions n call.body
    → call.call ≡ low.offset → ((v : Valuation) → value v call.left ≡ pos 0) → Opens call low new → Leads setting control.Call old new
call_leads setting old low new cell z call p known (n, e, k) place left o = leads_sound (λ m. controlled (setting_of setting) m control.Call) old new (λ v m controls fits s at.
    let (is, shows) = pops_shows v old low cell m controls p s in
    let fits' = pops_fits v old low cell p fits in
    let c : called (setting_of setting) m (value v cell) ≡ Ok call.body = rw (known v fits', e) (called_is setting v low (record m { stack = values v low.stack }) controls n call.body shows k) in
    let f : Frame = record { body = call.body; call = m.offset; turn = 1; count = 1 } in
    let same = ap (values v) (opened_stack low new call o) in
    record {
      n = record m { frames = f ∷ m.frames; offset = body_offset call.body };
      goes = rw (is, c) (ap (λ (l : List ℤ). Ok (leaves (record m { frames = f ∷ m.frames; offset = body_offset call.body }) l [])) (sym same));
      shown = opened v low new m controls call f o (record { body_is = refl; call_is = at ∙ sym (ap (λ (a : State). a.offset) p.same) ∙ sym place; left_is = sym (left v) }) fits' shows;
    })

below_one : (z : ℤ) → z ≤ℤ pos 0 → (m : Machine) (body : ℕ) (stack : List ℤ) → enters m body stack z ≡ goes_to m stack (m.offset + 1)
below_one (pos zero) h m body stack = refl
below_one (pos (suc n)) h m body stack = absurd (omega (arith, ints))
below_one (negsuc n) h m body stack = refl

pub repeats_none : (old new : State) (body next : ℕ) (count : Cell) → ((v : Valuation) → Fits old.ranges.items v → value v count ≤ℤ pos 0) → next ≡ old.offset + 1 → GoesTo next old new → Repeats body count old new
repeats_none old new body next count low e g = record {
  stack = ap (λ (a : State). a.stack) g.same;
  repeats = λ v m controls fits s at.
      let k : m.offset + 1 ≡ next = ap (λ (i : ℕ). i + 1) at ∙ sym e in
      let l = goto_left (Ok (enters m body m.stack (value v count))) v old new m controls next (rw (below_one (value v count) (low v fits) m body m.stack, k, s.stack) refl) g fits (same_stack v old m controls s) in
      (l.n, let q : ◌≡◌ {A = Tested Outcome} (Ok (enters m body m.stack (value v count))) (Ok (leaves l.n (values v new.stack) [])) = l.goes in cc, l.shown);
}

pub repeats_some : (old new : State) (body : ℕ) (count : Cell) (call : OpenCall) → ((v : Valuation) → Fits old.ranges.items v → pos 1 ≤ℤ value v count) → call.body ≡ body → call.call ≡ old.offset → ((v : Valuation) → value v call.left ≡ value v count -ℤ pos 1) → Opens call old new
    → Repeats body count old new
repeats_some old new body count call high b place left o = record {
  stack = opened_stack old new call o;
  repeats = λ v m controls fits s at. go v m controls fits s at (value v count) refl (high v fits);
}
  where
    go : (v : Valuation) (m : Machine) (controls : ℕ → ℤ) → Fits old.ranges.items v → Shows v old m controls → m.offset ≡ old.offset → (z : ℤ) → value v count ≡ z → pos 1 ≤ℤ z
        → (n : Machine) × (enters m body m.stack z ≡ leaves n (values v new.stack) []) × IsShownBy v new (record n { stack = values v new.stack }) controls
    go v m controls fits s at (pos zero) e h = absurd (omega (arith, ints))
    go v m controls fits s at (negsuc n) e h = absurd (omega (arith, ints))
    go v m controls fits s at (pos (suc n)) e h =
        let f : Frame = record { body = body; call = m.offset; turn = 1; count = suc n } in
        let same : m.stack ≡ values v new.stack = s.stack ∙ ap (values v) (sym (opened_stack old new call o)) in
        let shown = opened v old new m controls call f o (record { body_is = sym b; call_is = at ∙ sym place; left_is = sym (left v ∙ ap (λ (x : ℤ). x -ℤ pos 1) e) }) fits (same_stack v old m controls s) in (
          record m { frames = f ∷ m.frames; offset = body_offset body },
          ap (λ (l : List ℤ). leaves (record m { frames = f ∷ m.frames; offset = body_offset body }) l []) same,
          subst (λ (c : ℕ). IsShownBy v new (record m { frames = f ∷ m.frames; offset = body_offset c; stack = values v new.stack }) controls) b shown,
        )

loop_goes : (s : MachineSetting) (m : Machine) (z count : ℤ) (rest : List ℤ) (body : ℕ) → m.stack ≡ z ∷ count ∷ rest → called s m z ≡ Ok body → controlled s m control.LoopCall ≡ Ok (enters m body rest count)
loop_goes s m z count rest body e c = rw (e, c) refl

pub loop_leads : (setting : Setting) (old middle low new : State) (top cell : Cell) (z : ℤ) (body : ℕ) → Pops old middle top → Pops middle low cell → ((v : Valuation) → Fits middle.ranges.items v → value v top ≡ z) → (n : ℕ) × (z ≡ pos n) × IsKnownFunction setting middle.functions n body
    → Repeats body cell low new → Leads setting control.LoopCall old new
loop_leads setting old middle low new top cell z body p q known (n, e, k) r = leads_sound (λ m. controlled (setting_of setting) m control.LoopCall) old new (λ v m controls fits s at.
    let (is, shows) = pops_shows v old middle top m controls p s in
    let fits' = pops_fits v old middle top p fits in
    let (is', shows') = pops_shows v middle low cell (record m { stack = values v middle.stack }) controls q shows in
    let fits'' = pops_fits v middle low cell q fits' in
    let c : called (setting_of setting) m (value v top) ≡ Ok body = rw (known v fits', e) (called_is setting v middle (record m { stack = values v middle.stack }) controls n body shows k) in
    let place : m.offset ≡ low.offset = at ∙ sym (ap (λ (a : State). a.offset) p.same) ∙ sym (ap (λ (a : State). a.offset) q.same) in
    let (n', goes, shown) = r.repeats v (record m { stack = values v low.stack }) controls fits'' shows' place in
    let stack : m.stack ≡ value v top ∷ value v cell ∷ values v low.stack = is ∙ ap (λ (l : List ℤ). value v top ∷ l) is' in
    record { n = n'; goes = loop_goes (setting_of setting) m (value v top) (value v cell) (values v low.stack) body stack c ∙ same_enters m body (values v low.stack) (value v cell) ∙ ap Ok goes; shown = shown })
  where
    same_enters : (m : Machine) (body : ℕ) (stack : List ℤ) (z : ℤ) → ◌≡◌ {A = Tested Outcome} (Ok (enters m body stack z)) (Ok (enters (record m { stack = stack }) body stack z))
    same_enters m body stack (pos zero) = refl
    same_enters m body stack (pos (suc n)) = refl
    same_enters m body stack (negsuc n) = refl

-- At the end of a body.

closed_calls : (v : Valuation) (old low : State) (call : OpenCall) (fs : List Frame) → Closes old low call → ShowsCalls v (reverse old.calls.items) fs → ShowsCalls v (call ∷ reverse low.calls.items) fs
closed_calls v old low call fs c h = subst (λ (l : List OpenCall). ShowsCalls v l fs) (ap reverse c.calls ∙ reverse-append low.calls.items (call ∷ [])) h

record Inner (v : Valuation) (call : OpenCall) (calls : List OpenCall) (fs : List Frame) : Type 0 where
  frame : Frame
  rest : List Frame
  are : fs ≡ frame ∷ rest
  shows : ShowsCall v call frame
  others : ShowsCalls v calls rest

inner : (v : Valuation) (call : OpenCall) (calls cs : List OpenCall) (fs : List Frame) → cs ≡ call ∷ calls → ShowsCalls v cs fs → Inner v call calls fs
inner v call calls cs fs e none = absurd (cc)
inner v call calls cs fs e (more c calls' f frames h hs) =
    let one : c ≡ call = cc in let two : calls' ≡ calls = cc in
    record { frame = f; rest = frames; are = refl; shows = subst (λ (x : OpenCall). ShowsCall v x f) one h; others = subst (λ (l : List OpenCall). ShowsCalls v l frames) two hs }

closes_shows : (v : Valuation) (old low : State) (call : OpenCall) (m : Machine) (controls : ℕ → ℤ) (rest : List Frame) → Closes old low call → ShowsCalls v (reverse low.calls.items) rest → Shows v old m controls → Shows v low (record m { frames = rest; stack = values v low.stack }) controls
closes_shows v old low call m controls rest c calls h =
    let S : State → Type 0 = λ a. ShowsCalls v (reverse a.calls.items) rest → Shows v a (record m { frames = rest; stack = values v a.stack }) controls in
    subst S (sym c.same) (λ cs. record { calls = cs; stack = refl; graphics = h.graphics; storage = h.storage; controls_are = h.controls_are; functions = h.functions }) calls

closes_fits : (v : Valuation) (old low : State) (call : OpenCall) → Closes old low call → Fits old.ranges.items v → Fits low.ranges.items v
closes_fits v old low call c fits = let F : State → Type 0 = λ a. Fits a.ranges.items v in subst F (sym c.same) fits

returns_last : (m : Machine) (f : Frame) (fs : List Frame) (stack : List ℤ) (next : ℕ) → nat_lt f.turn f.count ≡ false → f.call + 1 ≡ next → m.stack ≡ stack → returns m (f ∷ fs) ≡ Ok (goes_to (record m { frames = fs }) stack next)
returns_last m f fs stack next t n e = rw (t, n, e) refl

returns_again : (m : Machine) (f : Frame) (fs : List Frame) (stack : List ℤ) → nat_lt f.turn f.count ≡ true → m.stack ≡ stack → returns m (f ∷ fs) ≡ Ok (goes_to (record m { frames = record f { turn = f.turn + 1 } ∷ fs }) stack (body_offset f.body))
returns_again m f fs stack t e = rw (t, e) refl

module _ (setting : Setting) (old low new : State) (call : OpenCall) (c : Closes old low call) where
  innermost : (v : Valuation) (m : Machine) (controls : ℕ → ℤ) → Shows v old m controls → Inner v call (reverse low.calls.items) m.frames
  innermost v m controls s = inner v call (reverse low.calls.items) (call ∷ reverse low.calls.items) m.frames refl (closed_calls v old low call m.frames c s.calls)

  stack_is : (v : Valuation) (m : Machine) (controls : ℕ → ℤ) → Shows v old m controls → m.stack ≡ values v low.stack
  stack_is v m controls s = s.stack ∙ sym (ap (λ (a : State). values v a.stack) c.same)

  pub ends_return : (next : ℕ) → ((v : Valuation) → Fits low.ranges.items v → value v call.left ≤ℤ pos 0) → next ≡ call.call + 1 → GoesTo next low new → Leads setting control.EndFunction old new
  ends_return next left e g = leads_sound (λ m. controlled (setting_of setting) m control.EndFunction) old new (λ v m controls fits s at.
      let i = innermost v m controls s in
      let fits' = closes_fits v old low call c fits in
      let l = i.shows.left_is in let h = left v fits' in
      let t : nat_lt i.frame.turn i.frame.count ≡ false = lt_false i.frame.turn i.frame.count (omega (arith, ints)) in
      let n : i.frame.call + 1 ≡ next = ap (λ (k : ℕ). k + 1) i.shows.call_is ∙ sym e in
      goto_left (controlled (setting_of setting) m control.EndFunction) v low new (record m { frames = i.rest }) controls next
      (ap (returns m) i.are ∙ returns_last m i.frame i.rest (values v low.stack) next t n (stack_is v m controls s)) g fits' (closes_shows v old low call m controls i.rest c i.others s))

  pub ends_again : (reopened : OpenCall) → ((v : Valuation) → Fits low.ranges.items v → pos 1 ≤ℤ value v call.left) → reopened.body ≡ call.body → reopened.call ≡ call.call → ((v : Valuation) → value v reopened.left ≡ value v call.left -ℤ pos 1) → Opens reopened low new
      → Leads setting control.EndFunction old new
  ends_again reopened left b k again o = leads_sound (λ m. controlled (setting_of setting) m control.EndFunction) old new (λ v m controls fits s at.
      let i = innermost v m controls s in
      let fits' = closes_fits v old low call c fits in
      let l = i.shows.left_is in let h = left v fits' in
      let t : nat_lt i.frame.turn i.frame.count ≡ true = lt_true i.frame.turn i.frame.count (omega (arith, ints)) in
      let f : Frame = record i.frame { turn = i.frame.turn + 1 } in
      let a = again v in
      let less : pos i.frame.count -ℤ pos (i.frame.turn + 1) ≡ value v reopened.left = omega (arith, ints) in
      let same : m.stack ≡ values v new.stack = stack_is v m controls s ∙ ap (values v) (sym (opened_stack low new reopened o)) in
      let body : i.frame.body ≡ reopened.body = i.shows.body_is ∙ sym b in
      record {
        n = record m { frames = f ∷ i.rest; offset = body_offset i.frame.body };
        goes = ap (returns m) i.are ∙ returns_again m i.frame i.rest (values v new.stack) t same;
        shown = subst (λ (x : ℕ). IsShownBy v new (record m { frames = f ∷ i.rest; offset = body_offset x; stack = values v new.stack }) controls) (sym body)
            (opened v low new (record m { frames = i.rest }) controls reopened f o (record { body_is = body; call_is = i.shows.call_is ∙ sym k; left_is = less }) fits' (closes_shows v old low call m controls i.rest c i.others s));
      })

-- FDEF.

pub defines : (setting : Setting) (point : Point) (old low new : State) (cell : Cell) (z : ℤ) (n after body : ℕ) → IsAt point old → may_define (setting_of setting).kind ≡ true → Pops old low cell → ((v : Valuation) → Fits low.ranges.items v → value v cell ≡ z) → z ≡ pos n
    → n < setting.limits.functions → after_fdef (program_of (setting_of setting) (frames_of point)) point.offset ≡ Some after → body ≡ body_name (setting_of setting).kind (point.offset + 1) → new ≡ record low { functions = new.functions; offset = new.offset } → new.offset ≡ after → new.functions ≡ with_entry n body low.functions
    → Leads setting control.FunctionDefinition old new
defines setting point old low new cell z n after body at may p known e below goes named same there put = leads_sound (λ m. controlled (setting_of setting) m control.FunctionDefinition) old new (λ v m controls fits s o.
    let (is, shows) = pops_shows v old low cell m controls p s in
    let fits' = pops_fits v old low cell p fits in
    let k : value v cell ≡ pos n = known v fits' ∙ e in
    let b : is_below (pos n) setting.limits.functions ≡ true = lt_true n setting.limits.functions below in
    let q : m.offset ≡ point.offset = o ∙ sym at.offset_is in
    let f : after_fdef (program_of (setting_of setting) m.frames) m.offset ≡ Some after = rw ((same_place (setting_of setting) v (reverse old.calls.items) m.frames (frames_of point) s.calls at.same_body).program, q) goes in
    let stacks : new.stack ≡ low.stack = ap (λ (a : State). a.stack) same in
    let fs : List (ℕ × ℕ) = (n, body_name (setting_of setting).kind (m.offset + 1)) ∷ m.functions in
    let S : State → Type 0 = λ x. CoversFunctions x.functions fs → Shows v x (record m { offset = after; stack = values v x.stack; functions = fs }) controls in
    let F : State → Type 0 = λ x. Fits x.ranges.items v in
    record {
      n = record m { offset = after; functions = fs };
      goes = rw (may, is, k, b, f) (ap (λ (l : List Cell). Ok (leaves (record m { offset = after; functions = fs }) (values v l) [])) (sym stacks));
      shown = record {
        fits = subst F (sym same) fits';
        shows = subst S (sym same) (λ gs. record { calls = shows.calls; stack = refl; graphics = shows.graphics; storage = shows.storage; controls_are = shows.controls_are; functions = gs })
            (λ i x got. split_at i n
            (λ w. let g : Some body ≡ Some x = sym (listed_here n body low.functions) ∙ ap (listed (with_entry n body low.functions)) (sym w) ∙ ap (λ l. listed l i) (sym put) ∙ listed-named new.functions i ∙ got in
            let bx : body ≡ x = cc in
            ap (λ (j : ℕ). body_named fs j) w ∙ named_here n _ m.functions ∙ ap (λ (k : ℕ). Some (body_name (setting_of setting).kind (k + 1))) q ∙ ap Some (sym named ∙ bx))
            (λ w. let g : listed low.functions i ≡ Some x = sym (listed_there n body low.functions i w) ∙ ap (λ l. listed l i) (sym put) ∙ listed-named new.functions i ∙ got in
            named_there n _ m.functions i w ∙ shows.functions i x (sym (listed-named low.functions i) ∙ g)));
        offset_is = sym there;
      };
    })
  where
    named_here : (n b : ℕ) (fs : List (ℕ × ℕ)) → body_named ((n, b) ∷ fs) n ≡ Some b
    named_here n b fs = rw (eq_same n) refl

    named_there : (n b : ℕ) (fs : List (ℕ × ℕ)) (i : ℕ) → (i ≡ n → ⊥) → body_named ((n, b) ∷ fs) i ≡ body_named fs i
    named_there n b fs i h = rw (eq_other n i (λ q. h (sym q))) refl

pub beq_true : (a b : Bool) → beq a b ≡ true → a ≡ b
beq_true true true e = refl
beq_true true false e = absurd (cc)
beq_true false true e = absurd (cc)
beq_true false false e = refl

pub beq_false : (a b : Bool) → beq a b ≡ false → a ≡ b → ⊥
beq_false true true e f = cc
beq_false true false e f = cc
beq_false false true e f = cc
beq_false false false e f = cc

-- the last of a list
pub last_is : {A : Type 0} (xs : List A) (k : ℕ) (d : A) → k + 1 ≡ length xs → (outer : List A) × (xs ≡ outer ++ get_or xs k d ∷ [])
last_is [] k d e = absurd (omega arith)
last_is (x ∷ []) zero d e = ([], refl)
last_is (x ∷ y ∷ ys) zero d e = absurd (omega arith)
last_is {A} (x ∷ xs) (suc k) d e = let (o, is) = last_is xs k d (omega arith) in (x ∷ o, ap (λ (l : List A). x ∷ l) is)
