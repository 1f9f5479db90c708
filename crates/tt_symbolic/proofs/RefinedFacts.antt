-- RCVT, WCVTP, WCVTF, DELTAC, MAX, MIN, MUL, DIV, FLOOR and CEILING on a state.
use Rattle.std.proofs.Common.{◌≡◌, ℕ, ◌+◌, ◌<◌, ℤ, pos, ◌≤ℤ◌, List, [], ◌∷◌, Ok, Some, true, refl, sym, ◌∙◌, ap, subst, arith, length, drop, add-one, inl, inr}
use Rattle.std.proofs.lemmas.Bool.{cases_lt}
use Rattle.std.proofs.lemmas.List.{length-map}
use Rattle.tt_code.specs.Refusals.{Tested}
use Rattle.tt_code.specs.Settings.{Setting}
use Rattle.tt_code.specs.States.{Machine, Outcome, Anything, IsNumber, is_below, is_number, leaves}
use Rattle.tt_code.specs.Changes.{natural, plain, with_stored}
use Rattle.tt_code.specs.Runs.{Choices, left_by}
use Rattle.tt_setting.specs.Entries.{listed, with_entry}
use Rattle.tt_symbolic_state.specs.declared.cell.Cell.{Cell}
use Rattle.tt_symbolic_state.specs.Values.{Fits, Valuation, value}
use Rattle.tt_symbolic_state.specs.declared.state.State.{State}
use Rattle.tt_code.specs.declared.kinds.Refinement.{Refinement}
use Rattle.tt_code.specs.declared.kinds.Refinement.TheVariants.{ChangesControl, ChangesControls, ReadsControl, WritesControl}
use Rattle.tt_symbolic_state.specs.CvtMachine.{ChangesOnly, IsPaired, Refines, SameControls}
use Rattle.tt_symbolic_state.specs.Shows.{Shows, ShowsArea, values}
use Rattle.tt_symbolic_cells.specs.declared.answer.Answer.{Answer}
use Rattle.tt_symbolic_cells.specs.declared.exact.Exact.{Exact}
use Rattle.tt_symbolic_cells.specs.declared.exact.Exact.TheVariants as exact
use Rattle.tt_symbolic.specs.Representation.Areas.{Forgets, ForgetsPair, ForgetsPairs, IsForgotten}
use Rattle.tt_symbolic.specs.Representation.Plain.{Cuts, IsAny, IsControlAt}
use Rattle.tt_symbolic_cells.specs.Answers.{IsAnswer}
use Rattle.tt_symbolic.specs.Sound.{Pops, Puts, ShowsSome, Works, keeps_controls}
use Rattle.tt_symbolic_cells.specs.Answers.{AnswersExact, IsExact}
use Rattle.tt_symbolic.specs.Representation.Refined.{ChangeWorks, ExactWorks, ReadWorks, WriteWorks, exact_line, of_one_line, of_two_line, refined, refinement_for, write_line}
use Rattle.tt_symbolic_cells.proofs.Computings.{number_from}
use Rattle.tt_symbolic.proofs.AreaFacts.{area_between, area_forgets, area_put, not_between, part_more, part_same}
use Rattle.tt_symbolic.proofs.Plains.{cut_fits, cut_shows}
use Rattle.tt_symbolic_cells.proofs.Takings.{under_is}
use Rattle.tt_symbolic.proofs.Works.{pops_fits, pops_shows, same_controls, same_offset}

-- What the machine says of a result.

allowed_two : (op : Exact) (a b : ℤ) (below : List ℤ) (old new : ℕ → ℤ) (choices : Choices) → Refines (refinement_for op) (b ∷ a ∷ below) old choices new → IsExact op a b (choices 0) × SameControls old new
allowed_two exact.Greatest a b below old new choices r = r
allowed_two exact.Least a b below old new choices r = r
allowed_two exact.Product a b below old new choices r = r
allowed_two exact.Quotient a b below old new choices r = r
allowed_two exact.Floor a b below old new choices r = r
allowed_two exact.Ceiling a b below old new choices r = r

allowed_one : (op : Exact) (b : ℤ) (below : List ℤ) (old new : ℕ → ℤ) (choices : Choices) → exact_line op ≡ of_one_line → Refines (refinement_for op) (b ∷ below) old choices new → IsExact op b b (choices 0) × SameControls old new
allowed_one exact.Greatest b below old new choices e r = let l = ap (λ x. length x.operands) e in absurd (omega arith)
allowed_one exact.Least b below old new choices e r = let l = ap (λ x. length x.operands) e in absurd (omega arith)
allowed_one exact.Product b below old new choices e r = let l = ap (λ x. length x.operands) e in absurd (omega arith)
allowed_one exact.Quotient b below old new choices e r = let l = ap (λ x. length x.operands) e in absurd (omega arith)
allowed_one exact.Floor b below old new choices e r = r
allowed_one exact.Ceiling b below old new choices e r = r

pub exact_two : (op : Exact) (s : Setting) (old middle low new : State) (a b : Cell) (answer : Answer) → exact_line op ≡ of_two_line → Pops old middle b → Pops middle low a → AnswersExact op a b low.ranges.items answer → Puts (λ v m controls z. IsAnswer answer v z) low new → ExactWorks op s old new
exact_two op s old middle low new a b answer line p q tells r = record {
  stays = r.stays ∙ same_offset middle low q.same ∙ same_offset old middle p.same;
  works = λ v m controls fits h.
      let (is, shows) = pops_shows v old middle b m controls p h in
      let fits' = pops_fits v old middle b p fits in
      let (is', shows') = pops_shows v middle low a (record m { stack = values v middle.stack }) controls q shows in
      let fits'' = pops_fits v middle low a q fits' in
      let stack : m.stack ≡ value v b ∷ value v a ∷ values v low.stack = is ∙ ap (λ (l : List ℤ). value v b ∷ l) is' in
      record {
        after = leaves m (values v low.stack) (Anything ∷ []);
        goes = ap (plain s m) line ∙ rw stack refl;
        deep = let n = length-map low.stack (value v) in let d = r.deeper in omega arith;
        into = λ choices controls' numbers refines.
            let these = allowed_two op (value v a) (value v b) (values v low.stack) controls controls' choices (subst (λ (l : List ℤ). Refines (refinement_for op) l controls choices controls') stack refines) in
            let w = r.puts v (record m { stack = values v low.stack }) controls fits'' shows' (choices 0) (tells.answers v fits'' (choices 0) (numbers 0) these.0) in
            record { valuation = w.valuation; fits = w.fits; shows = same_controls w.valuation new _ controls controls' these.1 w.shows };
      };
}

pub exact_one : (op : Exact) (s : Setting) (old low new : State) (b : Cell) (answer : Answer) → exact_line op ≡ of_one_line → Pops old low b → AnswersExact op b b low.ranges.items answer → Puts (λ v m controls z. IsAnswer answer v z) low new → ExactWorks op s old new
exact_one op s old low new b answer line p tells r = record {
  stays = r.stays ∙ same_offset old low p.same;
  works = λ v m controls fits h.
      let (stack, shows) = pops_shows v old low b m controls p h in
      let fits' = pops_fits v old low b p fits in
      record {
        after = leaves m (values v low.stack) (Anything ∷ []);
        goes = ap (plain s m) line ∙ rw stack refl;
        deep = let n = length-map low.stack (value v) in let d = r.deeper in omega arith;
        into = λ choices controls' numbers refines.
            let these = allowed_one op (value v b) (values v low.stack) controls controls' choices line (subst (λ (l : List ℤ). Refines (refinement_for op) l controls choices controls') stack refines) in
            let w = r.puts v (record m { stack = values v low.stack }) controls fits' shows (choices 0) (tells.answers v fits' (choices 0) (numbers 0) these.0) in
            record { valuation = w.valuation; fits = w.fits; shows = same_controls w.valuation new _ controls controls' these.1 w.shows };
      };
}

pub read_works : (These : Valuation → Machine → (ℕ → ℤ) → ℤ → Type 0) (s : Setting) (old low new : State) (c : Cell) → drop 0 old.stack ≡ c ∷ drop 1 old.stack → ((v : Valuation) → Fits old.ranges.items v → is_below (value v c) s.cvt ≡ true)
    → ((v : Valuation) (m : Machine) (controls : ℕ → ℤ) (z : ℤ) → Fits old.ranges.items v → z ≡ controls (natural (value v c)) → IsNumber z → These v m controls z) → Cuts 1 old low → Puts These low new → ReadWorks s old new
read_works These s old low new c top below these_are cut r = record {
  stays = r.stays ∙ same_offset old low cut.same;
  works = λ v m controls fits h.
      let stack : m.stack ≡ value v c ∷ values v (drop 1 old.stack) = h.stack ∙ ap (values v) top in
      let under : drop 1 (values v old.stack) ≡ values v (drop 1 old.stack) = ap (λ (l : List Cell). drop 1 (values v l)) top in
      record {
        after = leaves m (values v (drop 1 old.stack)) (Anything ∷ []);
        goes = rw (stack, below v fits) refl;
        deep = let n = length-map (drop 1 old.stack) (value v) in let d = r.deeper in let f = ap length cut.stack in omega arith;
        into = λ choices controls' numbers refines.
            let these : (choices 0 ≡ controls (natural (value v c))) × SameControls controls controls' = subst (λ (l : List ℤ). Refines ReadsControl l controls choices controls') stack refines in
            let w = r.puts v (record m { stack = drop 1 (values v old.stack) }) controls (cut_fits v 1 old low cut fits) (cut_shows v 1 old low m controls cut h) (choices 0) (these_are v (record m { stack = drop 1 (values v old.stack) }) controls (choices 0) fits these.0 (numbers 0)) in
            let shows = subst (λ (l : List ℤ). Shows w.valuation new (record m { stack = choices 0 ∷ l }) controls) under w.shows in
            record { valuation = w.valuation; fits = w.fits; shows = same_controls w.valuation new _ controls controls' these.1 shows };
      };
}

pub read_at : (s : Setting) (old low new : State) (c : Cell) (i : ℕ) → drop 0 old.stack ≡ c ∷ drop 1 old.stack → ((v : Valuation) → Fits old.ranges.items v → is_below (value v c) s.cvt ≡ true)
    → ((v : Valuation) → Fits old.ranges.items v → value v c ≡ pos i) → Cuts 1 old low → Puts (IsControlAt i) low new → ReadWorks s old new
read_at s old low new c i top below index = read_works (IsControlAt i) s old low new c top below (λ v m controls z fits e n. e ∙ ap (λ (k : ℤ). controls (natural k)) (index v fits))

pub read_any : (s : Setting) (old low new : State) (c : Cell) → drop 0 old.stack ≡ c ∷ drop 1 old.stack → ((v : Valuation) → Fits old.ranges.items v → is_below (value v c) s.cvt ≡ true) → Cuts 1 old low → Puts IsAny low new → ReadWorks s old new
read_any s old low new c top below = read_works IsAny s old low new c top below (λ v m controls z fits e n. n)

-- where other control values are known afterwards

controls_show : (v : Valuation) (a b : State) (m : Machine) (old new : ℕ → ℤ) → b ≡ record a { controls = b.controls } → ShowsArea v b.controls new → Shows v a m old → Shows v b m new
controls_show v a b m old new same area h =
    let S : State → Type 0 = λ x. ShowsArea v x.controls new → Shows v x m new in
    subst S (sym same) (λ w. record { calls = h.calls; stack = h.stack; graphics = h.graphics; storage = h.storage; controls_are = w; functions = h.functions }) area

controls_fit : (v : Valuation) (a b : State) → b ≡ record a { controls = b.controls } → Fits a.ranges.items v → Fits b.ranges.items v
controls_fit v a b same fits = let F : State → Type 0 = λ x. Fits x.ranges.items v in subst F (sym same) fits

controls_depth : (a b : State) → b ≡ record a { controls = b.controls } → length b.stack ≡ length a.stack
controls_depth a b same = ap (λ (x : State). length x.stack) same

controls_offset : (a b : State) → b ≡ record a { controls = b.controls } → b.offset ≡ a.offset
controls_offset a b same = ap (λ (x : State). x.offset) same

-- an instruction that takes a number and an index, and changes control values
module _ (s : Setting) (kind : Refinement) (old low new : State) (c p : Cell) (top : drop 0 old.stack ≡ c ∷ drop 1 old.stack) (second : drop 1 old.stack ≡ p ∷ drop 2 old.stack)
    (below : (v : Valuation) → Fits old.ranges.items v → is_below (value v p) s.cvt ≡ true) (cut : Cuts 2 old low) (same : new ≡ record low { controls = new.controls })
    (area : (v : Valuation) (choices : Choices) (controls controls' : ℕ → ℤ) (rest : List ℤ) → Fits old.ranges.items v → Refines kind (value v c ∷ value v p ∷ rest) controls choices controls' → ShowsArea v low.controls controls → ShowsArea v new.controls controls') where
  index_works : Works (λ m. plain s m write_line) (refined kind) old new
  index_works = record {
    stays = controls_offset low new same ∙ same_offset old low cut.same;
    works = λ v m controls fits h.
        let both : old.stack ≡ c ∷ p ∷ drop 2 old.stack = top ∙ ap (λ (l : List Cell). c ∷ l) second in
        let stack : m.stack ≡ value v c ∷ value v p ∷ values v (drop 2 old.stack) = h.stack ∙ ap (values v) both in
        let under : drop 2 (values v old.stack) ≡ values v (drop 2 old.stack) = ap (λ (l : List Cell). drop 2 (values v l)) both in
        record {
          after = leaves m (values v (drop 2 old.stack)) [];
          goes = rw (stack, below v fits) refl;
          deep = let n = length-map (drop 2 old.stack) (value v) in let f = ap length cut.stack in let g = controls_depth low new same in omega arith;
          into = λ choices controls' numbers refines.
              let these = subst (λ (l : List ℤ). Refines kind l controls choices controls') stack refines in
              let there = cut_shows v 2 old low m controls cut h in
              let shows = controls_show v low new _ controls controls' same (area v choices controls controls' (values v (drop 2 old.stack)) fits these there.controls_are) there in
              record { valuation = v; fits = controls_fit v low new same (cut_fits v 2 old low cut fits); shows = subst (λ (l : List ℤ). Shows v new (record m { stack = l }) controls') under shows };
        };
  }

pub write_works : (s : Setting) (old low new : State) (c p : Cell) (i : ℕ) → drop 0 old.stack ≡ c ∷ drop 1 old.stack → drop 1 old.stack ≡ p ∷ drop 2 old.stack
    → ((v : Valuation) → Fits old.ranges.items v → is_number (value v c) ≡ true) → ((v : Valuation) → Fits old.ranges.items v → is_below (value v p) s.cvt ≡ true)
    → ((v : Valuation) → Fits old.ranges.items v → value v p ≡ pos i) → Cuts 2 old low → new ≡ record low { controls = new.controls } → new.controls ≡ with_entry i c low.controls → WriteWorks s old new
write_works s old low new c p i top second number below index cut same put = index_works s WritesControl old low new c p top second below cut same
    (λ v choices controls controls' rest fits these h. area_put v low.controls new.controls controls controls' i c (value v c) put refl (number_from (value v c) (number v fits)) (λ k. these k ∙ ap (λ (z : ℤ). with_stored (natural z) (value v c) controls k) (index v fits)) h)

pub write_between : (s : Setting) (old low new : State) (c p : Cell) (bottom most : ℤ) → drop 0 old.stack ≡ c ∷ drop 1 old.stack → drop 1 old.stack ≡ p ∷ drop 2 old.stack
    → ((v : Valuation) → Fits old.ranges.items v → is_number (value v c) ≡ true) → ((v : Valuation) → Fits old.ranges.items v → is_below (value v p) s.cvt ≡ true)
    → ((v : Valuation) → Fits old.ranges.items v → (pos 0 ≤ℤ value v p) × (bottom ≤ℤ value v p) × (value v p ≤ℤ most)) → Cuts 2 old low → new ≡ record low { controls = new.controls } → Forgets bottom most low.controls new.controls → WriteWorks s old new
write_between s old low new c p bottom most top second number below index cut same forgets = index_works s WritesControl old low new c p top second below cut same
    (λ v choices controls controls' rest fits these h.
    let is : controls' ≡ with_stored (natural (value v p)) (value v c) controls = λ i k. these k i in
    subst (ShowsArea v new.controls) (sym is) (area_between v low.controls new.controls controls bottom most (value v p) (value v c) forgets (index v fits) (number_from (value v c) (number v fits)) h))

pub change_works : (s : Setting) (old low new : State) (c p : Cell) (bottom most : ℤ) → drop 0 old.stack ≡ c ∷ drop 1 old.stack → drop 1 old.stack ≡ p ∷ drop 2 old.stack
    → ((v : Valuation) → Fits old.ranges.items v → is_below (value v p) s.cvt ≡ true)
    → ((v : Valuation) → Fits old.ranges.items v → (pos 0 ≤ℤ value v p) × (bottom ≤ℤ value v p) × (value v p ≤ℤ most)) → Cuts 2 old low → new ≡ record low { controls = new.controls } → Forgets bottom most low.controls new.controls → ChangeWorks s old new
change_works s old low new c p bottom most top second below index cut same forgets = index_works s ChangesControl old low new c p top second below cut same
    (λ v choices controls controls' rest fits these h. area_forgets v low.controls new.controls controls controls' forgets.part (λ k d at. these.same k (λ q. not_between bottom most (value v p) k (index v fits) (forgets.outside k d at) q)) these.are_numbers h)

-- DELTAC.

pub forgets_pair : (pair : ℕ) (old : State) (controls : List (ℕ × Cell)) (place : Cell) (low high : ℤ) → drop (pair + pair + 1) old.stack ≡ place ∷ drop (pair + pair + 1 + 1) old.stack
    → ((v : Valuation) → Fits old.ranges.items v → (pos 0 ≤ℤ value v place) × (low ≤ℤ value v place) × (value v place ≤ℤ high)) → Forgets low high old.controls controls → ForgetsPair pair old (record old { controls = controls })
forgets_pair pair old controls place low high at bounds f = record {
  same = refl;
  part = f.part;
  forgotten = record {
    forgotten = λ v fits index below e i c got q.
        let u = under_is v old.stack (pair + pair + 1) place at in
        let same : value v place ≡ index = cc in
        not_between low high (value v place) i (bounds v fits) (f.outside i c got) (q ∙ ap natural (sym same));
  };
}

pub pairs_none : (old : State) → ForgetsPairs 0 old old
pairs_none old = record { same = refl; part = part_same old.controls; forgotten = λ pair lt. absurd (omega arith) }

pub pairs_more : (i : ℕ) (old middle new : State) → ForgetsPairs i old middle → ForgetsPair i middle new → ForgetsPairs (i + 1) old new
pairs_more i old middle new h f = record {
  same = f.same ∙ ap (λ (a : State). record a { controls = new.controls }) h.same;
  part = part_more old.controls middle.controls new.controls h.part f.part;
  forgotten = λ pair lt. elim (cases_lt pair i) [ inl less ↦ earlier pair less | inr most ↦ last pair (omega arith) ];
}
  where
    earlier : (pair : ℕ) → pair < i → IsForgotten old.ranges.items old.stack pair new.controls
    earlier pair less = record { forgotten = λ v fits index below e k c at q. (h.forgotten pair (omega arith)).forgotten v fits index below e k c (f.part.was_listed k c at) q }

    here : IsForgotten old.ranges.items old.stack i new.controls
    here = let R : State → Type 0 = λ a. IsForgotten a.ranges.items a.stack i new.controls in subst R h.same f.forgotten

    last : (pair : ℕ) → pair ≡ i → IsForgotten old.ranges.items old.stack pair new.controls
    last pair e = subst (λ (k : ℕ). IsForgotten old.ranges.items old.stack k new.controls) (sym e) here

pub changes_work : (does : Machine → Tested Outcome) (old middle new : State) (n : ℕ) (c : Cell) → drop 0 old.stack ≡ c ∷ drop 1 old.stack → ((v : Valuation) → Fits old.ranges.items v → value v c ≡ pos n)
    → ForgetsPairs n old middle → Works does keeps_controls middle new → Works does (refined ChangesControls) old new
changes_work does old middle new n c top known f w = record {
  stays = w.stays ∙ controls_offset old middle f.same;
  works = λ v m controls fits h.
      let fits' = controls_fit v old middle f.same fits in
      let shown : (k : ℕ → ℤ) → ShowsArea v middle.controls k → Shows v middle m k = λ k area. controls_show v old middle m controls k f.same area h in
      let g = w.works v m controls fits' (shown controls (area_forgets v old.controls middle.controls controls controls f.part (λ k d at. refl) h.controls_are.are_numbers h.controls_are)) in
      record {
        after = g.after;
        goes = g.goes;
        deep = g.deep;
        into = λ choices controls' numbers refines.
            let stack : m.stack ≡ value v c ∷ values v (drop 1 old.stack) = h.stack ∙ ap (values v) top in
            let these : ChangesOnly (IsPaired (natural (value v c)) (values v (drop 1 old.stack))) controls controls' = subst (λ (l : List ℤ). Refines ChangesControls l controls choices controls') stack refines in
            let area = area_forgets v old.controls middle.controls controls controls' f.part (λ k d at. these.same k (unpaired v fits k d at)) these.are_numbers h.controls_are in
            let g' = w.works v m controls' fits' (shown controls' area) in
            let same : g'.after ≡ g.after = let e : ◌≡◌ {A = Tested Outcome} (Ok g'.after) (Ok g.after) = sym g'.goes ∙ g.goes in cc in
            subst (λ (o : Outcome). ShowsSome new (left_by o choices) controls') same (g'.into choices controls' numbers (λ i. refl));
      };
}
  where
    unpaired : (v : Valuation) → Fits old.ranges.items v → (k : ℕ) (d : Cell) → listed middle.controls k ≡ Some d → IsPaired (natural (value v c)) (values v (drop 1 old.stack)) k → ⊥
    unpaired v fits k d at p =
        let count : natural (value v c) ≡ n = ap natural (known v fits) in
        let lt : p.place < natural (value v c) = p.within in
        let all : values v old.stack ≡ value v c ∷ values v (drop 1 old.stack) = ap (values v) top in
        let there : drop (p.place + p.place + 1) (values v old.stack) ≡ p.index ∷ p.below = rw (add-one (p.place + p.place), all) p.at in
        (f.forgotten p.place (omega arith)).forgotten v fits p.index p.below there k d at p.is
