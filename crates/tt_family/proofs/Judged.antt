-- What the check of a whole family tells, and that of one that leaves states out.
use Rattle.std.specs.Prelude.{◌≡◌, ℕ, Bool, true, false, Option, Some, List, []}
use Rattle.std.proofs.Common.{sym, ◌∙◌, ap, inl, inr}
use Rattle.tt_code.specs.Settings.{Setting}
use Rattle.tt_code.specs.declared.reason.Reason.{Reason}
use Rattle.tt_setting.specs.Refusals.{reason_of}
use Rattle.tt_setting.specs.Settings.{setting_of}
use Rattle.tt_setting.specs.declared.setting.Setting.{Setting as Subject}
use Rattle.tt_abs.specs.declared.state.State.{State}
use Rattle.tt_setting.specs.Entries.{Ascends}
use Rattle.tt_abs.specs.Families.{CoversAt, IsGood}
use Rattle.tt_abs.proofs.FamilyLaws.{good_from_fine}
use Rattle.tt_abs.specs.Lines.{Precedes}
use Rattle.tt_setting.specs.Ranges.{IsSettingInRange}
use Rattle.tt_abs.specs.Soundness.{IsSafe}
use Rattle.tt_abs.specs.StateFlow.{Place, flow_of}
use Rattle.tt_setting.specs.Ranges.{AreProgramsShort}
use Rattle.tt_abs.specs.States.{start_of, state_order}
use Rattle.tt_abs.proofs.Soundness.{good_is_safe}
use Rattle.tt_family.specs.CheckedSubjects.{IsGoodListingFor, IsSafeListingFor, NamesListingBrokenFirst}
use Rattle.tt_family.specs.Contents.{Contents, IsFamily, family_of, number_of}
use Rattle.tt_family.specs.Fillings.{HasGoodFilling, HasSafeFilling}
use Rattle.tt_family.specs.GoodFamilies.{EndsWell, HasFewContexts, IsGoodFamily, IsShortEnough}
use Rattle.tt_family.specs.Checks.{AreSound, IsBrokenBy, IsBrokenFirst, IsFilledBy, IsFillingBrokenFirst, IsFirstBreak, IsFirstBreakOnTheWay, IsGap, IsMet, IsSoundAt, IsExhausted, Names, NamesAt, Nowhere, too_long, no_start, no_end, no_way}
use Rattle.tt_family.specs.Representation.Cursors.{IsFoundSound, IsFoundSoundFor, IsWalkedThrough, MayLeaveOut, NamesFirstFor}
use Rattle.tt_setting.specs.declared.refusal.Refusal.{Refusal}
use Rattle.tt_setting.specs.declared.refusal.Refusal.TheVariants.{Refused, Exhausted}
use Rattle.tt_family.specs.declared.listing.Listing.{Listing}
use Rattle.tt_family.specs.declared.listing.Listing.TheVariants.{Whole, Sparse}
use Rattle.tt_family.proofs.FillingLaws.{broken_way, ends_kept, ends_listed, filling_from_walk, gap_not_met, good_from_walk, some_or_none, sound_not_broken, start_listed}
use Rattle.tt_family.proofs.Walking.{line_of}

pub not_both : (b : Bool) → b ≡ false → b ≡ true → ⊥
not_both b f t = let no_such : false ≡ true = sym f ∙ t in cc

-- a gap at the start isn't covered
start_gap : (family : Place → Option State) (t : State) (r : Reason) → IsGap family ⊥ ([], 0) t r → CoversAt state_order family ([], 0) t → ⊥
start_gap family t r gap covered = gap_not_met family ⊥ ([], 0) t r gap (inl covered)

module _ (s : Setting) (functions : List (ℕ × ℕ)) (v : Contents) (IsFirst : Place → Reason → Type 0) where
  pub start_broken : IsShortEnough s s.kind → (fault : Refusal) → NamesAt ([], 0) (IsGap (family_of v) ⊥ ([], 0) (start_of functions)) fault → Names (IsBrokenBy s functions v IsFirst) fault
  start_broken short (Refused spot offset f) h = (([], 0), h.0, h.1, no_start (reason_of f) short h.2)
  start_broken short (Exhausted e) h = tt

  pub way_broken : IsShortEnough s s.kind → CoversAt state_order (family_of v) ([], 0) (start_of functions) → EndsWell s s.kind (family_of v) → (fault : Refusal)
      → Names IsFirst fault → Names (IsBrokenBy s functions v IsFirst) fault
  way_broken short start ends (Refused spot offset failed) (q, e, f, h) = (q, e, f, no_way q (reason_of failed) short start ends h)
  way_broken short start ends (Exhausted e) h = tt

  -- what is broken isn't good
  module _ (short : IsShortEnough s s.kind) (start : CoversAt state_order (family_of v) ([], 0) (start_of functions)) (ends : EndsWell s s.kind (family_of v))
      (none : (q : Place) (r : Reason) → IsFirst q r → ⊥) where
    not_broken : (q : Place) (r : Reason) → IsBrokenBy s functions v IsFirst q r → ⊥
    not_broken q r (too_long n) = n short
    not_broken q r (no_start r' short' gap) = start_gap (family_of v) (start_of functions) r' gap start
    not_broken q r (no_end short' start' n) = n ends
    not_broken q r (no_way q' r' short' start' ends' h) = none q' r' h

    only_exhausted : (fault : Refusal) → Names (IsBrokenBy s functions v IsFirst) fault → IsExhausted fault
    only_exhausted (Refused spot offset failed) (q, e, f, h) = not_broken q (reason_of failed) h
    only_exhausted (Exhausted e) h = tt

-- what is broken for the one is broken for the other
broken_map : (s : Setting) (functions : List (ℕ × ℕ)) (v : Contents) (A B : Place → Reason → Type 0) → ((q : Place) (r : Reason) → A q r → B q r) → (fault : Refusal)
    → Names (IsBrokenBy s functions v A) fault → Names (IsBrokenBy s functions v B) fault
broken_map s functions v A B f (Refused spot offset failed) (q, e, g, h) = (q, e, g, go q (reason_of failed) h)
  where
    go : (q : Place) (r : Reason) → IsBrokenBy s functions v A q r → IsBrokenBy s functions v B q r
    go q r (too_long n) = too_long n
    go q r (no_start r' short gap) = no_start r' short gap
    go q r (no_end short start n) = no_end short start n
    go q r (no_way q' r' short start ends h) = no_way q' r' short start ends (f q' r' h)
broken_map s functions v A B f (Exhausted e) h = tt

module _ (s : Setting) (functions : List (ℕ × ℕ)) (v : Contents) (family : IsFamily v) where
  -- A whole family: nothing is added.

  nothing_added : (Walked : Place → Type 0) (filled : Place → Option State) → IsFilledBy s (MayLeaveOut Whole s) (family_of v) Walked filled → (p : Place) (a : State)
      → filled p ≡ Some a → family_of v p ≡ Some a
  nothing_added Walked filled by p a at = elim (some_or_none (family_of v p)) [
    | inl (u, listed) ↦
        let there : filled p ≡ Some u = by.keeps p u listed in
        let same : u ≡ a = cc in
        listed ∙ ap Some same
    | inr none ↦ absurd ((by.added p a at none).just_before)
  ]

  -- the contexts of the certificate are all that have states
  few_contexts : HasFewContexts (family_of v)
  few_contexts = (v.contexts, family.few, λ p a at. family.held (number_of v.contexts p.0) p.1 a at)

  all_sound : IsWalkedThrough s Whole v → AreSound s (family_of v)
  all_sound through p a at = through.filled_by.sound p a tt (through.filled_by.keeps p a at)

  covered_where : (L : Type 0) (q : Place) (t : State) → (L → ⊥) → IsMet (family_of v) L q t → CoversAt state_order (family_of v) q t
  covered_where L q t none (inl covered) = covered
  covered_where L q t none (inr (no_state, may)) = absurd (none may)

  good_here : CoversAt state_order (family_of v) ([], 0) (start_of functions) → AreSound s (family_of v) → IsGood state_order (flow_of s functions) (family_of v)
  good_here start sound =
      good_from_fine state_order (flow_of s functions) (family_of v) (λ p a at. family.in_range (number_of v.contexts p.0) p.1 a at) start
      (λ p a at. ((sound p a at).safe, λ q t g. covered_where ⊥ q t (λ h. h) ((sound p a at).closed q t g)))

  pub family_here : IsFoundSound s functions Whole v → IsGoodFamily s functions (family_of v)
  family_here found = record {
    short = found.short;
    good = good_here found.start (all_sound found.through);
    ends = found.ends;
    storage = λ p a at. (all_sound found.through p a at).stored;
    few = few_contexts;
  }

  pub safe_here : IsSettingInRange s → AreProgramsShort s → Ascends functions → IsFoundSound s functions Whole v → IsSafe s functions (family_of v)
  safe_here range short ascends found = good_is_safe s range short functions ascends (family_of v) (good_here found.start (all_sound found.through))

  first_of_whole : (q : Place) (r : Reason) → IsFirstBreakOnTheWay s (MayLeaveOut Whole s) v q r → IsFirstBreak s v q r
  first_of_whole q r h = record {
    place = h.place;
    state = h.state;
    here = nothing_added _ h.filled h.filled_by h.place h.state h.here;
    breaks = h.breaks;
    before = λ p a less at. h.filled_by.sound p a less (h.filled_by.keeps p a at);
  }

  pub broken_whole : (fault : Refusal) → Names (IsBrokenBy s functions v (IsFirstBreakOnTheWay s (MayLeaveOut Whole s) v)) fault → Names (IsBrokenFirst s functions v) fault
  broken_whole = broken_map s functions v (IsFirstBreakOnTheWay s (MayLeaveOut Whole s) v) (IsFirstBreak s v) first_of_whole

  sound_here : IsGood state_order (flow_of s functions) (family_of v) → ((p : Place) (a : State) → family_of v p ≡ Some a → IsGoodFamily s functions (family_of v) → IsSoundAt s (family_of v) Nowhere p a)
  sound_here good p a at whole = record { stored = whole.storage p a at; safe = λ r x. good.safe p a r at x; closed = λ q t g. inl (good.closed p a q t at g) }

  pub whole_exhausted : IsGoodFamily s functions (family_of v) → (fault : Refusal) → Names (IsBrokenFirst s functions v) fault → IsExhausted fault
  whole_exhausted good =
      only_exhausted s functions v (IsFirstBreak s v) good.short good.good.start good.ends
      (λ q r h. sound_not_broken s (family_of v) Nowhere h.place h.state (sound_here good.good h.place h.state h.here good) q r h.breaks)

  -- One that leaves states out.

  filling_good : (found : IsFoundSound s functions Sparse v) → IsGoodFamily s functions found.through.filled
  filling_good found = record {
    short = found.short;
    good = good_from_walk s (MayLeaveOut Sparse s) (line_of s Sparse) v functions found.through.filled family found.through.filled_by found.start;
    ends = ends_kept s (MayLeaveOut Sparse s) (line_of s Sparse) (family_of v) found.through.filled found.through.filled_by.keeps s.kind found.ends;
    storage = λ p a at. (found.through.filled_by.sound p a tt at).stored;
    few = (v.contexts, family.few, found.through.held);
  }

  pub filling_here : IsFoundSound s functions Sparse v → HasGoodFilling s functions (family_of v)
  filling_here found = (found.through.filled, filling_from_walk s (family_of v) found.through.filled found.through.filled_by, filling_good found)

  pub safe_filling : IsSettingInRange s → AreProgramsShort s → Ascends functions → IsFoundSound s functions Sparse v → HasSafeFilling s functions (family_of v)
  safe_filling range short ascends found = (
    found.through.filled,
    filling_from_walk s (family_of v) found.through.filled found.through.filled_by,
    good_is_safe s range short functions ascends found.through.filled (filling_good found).good,
  )

  pub filling_exhausted : HasGoodFilling s functions (family_of v) → (fault : Refusal) → Names (IsFillingBrokenFirst s functions v) fault → IsExhausted fault
  filling_exhausted (filling, is, good) =
      only_exhausted s functions v (IsFirstBreakOnTheWay s (Precedes s) v) good.short (start_listed s functions (family_of v) filling is (start_of functions) good.good.start)
      (ends_listed s (family_of v) filling is s.kind good.ends)
      (λ q r h. broken_way s functions v q r h (filling, is, good))

-- Of either listing.
module _ (x : Subject) (v : Contents) (family : IsFamily v) where
  pub listing_good : (listing : Listing) → IsFoundSoundFor x listing v → IsGoodListingFor x listing v
  listing_good Whole = family_here (setting_of x) x.start.now v family
  listing_good Sparse = filling_here (setting_of x) x.start.now v family

  pub listing_safe : IsSettingInRange (setting_of x) → AreProgramsShort (setting_of x) → Ascends x.start.now → (listing : Listing) → IsFoundSoundFor x listing v → IsSafeListingFor x listing v
  listing_safe range short ascends Whole = safe_here (setting_of x) x.start.now v family range short ascends
  listing_safe range short ascends Sparse = safe_filling (setting_of x) x.start.now v family range short ascends

  pub listing_broken : (listing : Listing) (fault : Refusal) → NamesFirstFor x listing v fault → NamesListingBrokenFirst x listing v fault
  listing_broken Whole fault broken = broken_whole (setting_of x) x.start.now v family fault broken
  listing_broken Sparse fault broken = broken

  pub listing_exhausted : (listing : Listing) → IsGoodListingFor x listing v → (fault : Refusal) → NamesFirstFor x listing v fault → IsExhausted fault
  listing_exhausted Whole good fault broken = whole_exhausted (setting_of x) x.start.now v family good fault (listing_broken Whole fault broken)
  listing_exhausted Sparse good fault broken = filling_exhausted (setting_of x) x.start.now v family good fault broken
