-- A family has one text: what has its contexts, whatever their numbers, and its states by point, lists them in the same order.
use Rattle.std.proofs.Common.{◌≡◌, ℕ, zero, suc, ◌≤◌, ◌<◌, true, List, [], ◌∷◌, ◌++◌, length, Option, Some, None, refl, sym, ap, subst, ◌∙◌, arith, inl, inr}
use Rattle.std.specs.List.{AllByRecursion}
use Rattle.std.specs.List.Sorted.{IsStrictlySortedBy}
use Rattle.std.specs.Map.{keys_of}
use Rattle.std.specs.Option.{option_map_or}
use Rattle.std.specs.Prelude.{option_map}
use Rattle.std.specs.Ordering.{is_lt, ordering_reverse}
use Rattle.std.specs.declared.cmp.Ordering.TheVariants.{Less}
use Rattle.std.proofs.lemmas.Bool.{cases_lt}
use Rattle.tt_code.specs.declared.machine.Frame.{Frame}
use Rattle.tt_abs.specs.declared.state.State.{State}
use Rattle.tt_family.specs.Ascending.{IsContextAt, IsFinished, SameContents}
use Rattle.tt_family.specs.Built.{Key, key_cmp, key_of}
use Rattle.tt_family.specs.Contents.{Contents, HasContext, family_of, frames_at, number_of}
use Rattle.tt_family.specs.Numbers.{at-number_of, number_of-place}
use Rattle.tt_family.specs.Places.{place_cmp, states_of}
use Rattle.tt_family.specs.Puts.{family_at, place_of}
use Rattle.tt_family.proofs.Ascending.{key_total}
use Rattle.tt_family.proofs.PlaceEntries.{same_points}
use Rattle.tt_family.proofs.Putting.{place_total}
use Rattle.tt_cert.specs.declared.form.Form.{Form}
use Rattle.tt_setting.specs.declared.name.Name.{Name}
use Rattle.tt_cert.specs.Families.{HasText, family_text}
use Rattle.tt_cert.specs.Rules.{EachAfter, EntryFits, is_next_point, last_of, last_point}
use Rattle.tt_cert.specs.Sections.{Entry}
use Rattle.tt_cert.proofs.Ascends.{last_pushed}
use Rattle.tt_cert.proofs.ContextLists.{less_from}
use Rattle.tt_cert.proofs.Fields.{both}
use Rattle.tt_cert.proofs.Fitting.{same_lists}

-- a key isn't below itself

not_around : (x y : Key) → key_cmp x y ≡ Less → key_cmp y x ≡ Less → ⊥
not_around x y a b =
    let back : Less ≡ ordering_reverse Less = sym a ∙ key_total.antisymm x y ∙ ap ordering_reverse b in
    cc

-- contexts

-- the contexts below a number are the same
abbrev AgreeBelow : ℕ → Contents → Contents → Type 0
AgreeBelow n c d = (k : ℕ) → k < n → frames_at c.contexts k ≡ frames_at d.contexts k

agree_back : (n : ℕ) (c d : Contents) → AgreeBelow n c d → AgreeBelow n d c
agree_back n c d agree = λ k lt. sym (agree k lt)

-- a context, which is the other family's of this number or a later one
record IsThere (n : ℕ) (c d : Contents) : Type 0 where
  last : ℕ × Frame
  mine : IsContextAt c.contexts n last
  number : ℕ
  later : n ≤ number
  theirs : IsContextAt d.contexts number last

is_there : (n : ℕ) (c d : Contents) → IsFinished c → IsFinished d → ((frames : List Frame) → HasContext c.contexts frames → HasContext d.contexts frames)
    → AgreeBelow n c d → 0 < n → n < length c.contexts → IsThere n c d
is_there n c d p q has agree some lt =
    let (e, mine) = p.1.parents n some lt in
    let frames : List Frame = frames_at c.contexts n in
    let number_c = number_of-place c.contexts frames n lt refl in
    let there : HasContext d.contexts frames = has frames (omega arith) in
    let at : frames_at d.contexts (number_of d.contexts frames) ≡ frames = at-number_of d.contexts frames there in
    let before = mine.1 in
    let later : n ≤ number_of d.contexts frames = elim (cases_lt (number_of d.contexts frames) n) [
      | inl less ↦
          let same : number_of d.contexts frames ≡ n = p.0.distinct (number_of d.contexts frames) n (omega arith) lt (agree (number_of d.contexts frames) less ∙ at) in
          absurd (omega arith)
      | inr ge ↦ omega arith
    ] in
    record {
      last = e;
      mine = mine;
      number = number_of d.contexts frames;
      later = later;
      theirs = (there, omega arith, at ∙ mine.2 ∙ ap (λ (fs : List Frame). e.1 ∷ fs) (agree e.0 before));
    }

-- both have the same context of a number, if they have the same ones below it
agree_at : (n : ℕ) (c d : Contents) → IsFinished c → IsFinished d → SameContents c d → AgreeBelow n c d → n < length c.contexts → frames_at c.contexts n ≡ frames_at d.contexts n
agree_at zero c d p q same agree lt = p.0.main ∙ sym q.0.main
agree_at (suc k) c d p q same agree lt =
    let n : ℕ = suc k in
    let one = is_there n c d p q (λ frames. (same.contexts frames).0) agree (omega arith) lt in
    let one_there = one.theirs.0 in
    let one_later = one.later in
    let two = is_there n d c q p (λ frames. (same.contexts frames).1) (agree_back n c d agree) (omega arith) (omega arith) in
    let two_later = two.later in
    elim (cases_lt n one.number) [
      | inl less ↦ elim (cases_lt n two.number) [
        | inl less' ↦ absurd (not_around (key_of two.last) (key_of one.last) (q.1.ascends n one.number two.last one.last less two.mine one.theirs)
            (p.1.ascends n two.number one.last two.last less' one.mine two.theirs))
        | inr ge ↦
            let is : two.number ≡ n = omega arith in
            ap (frames_at c.contexts) (sym is) ∙ two.theirs.2 ∙ ap (λ (fs : List Frame). two.last.1 ∷ fs) (parent two.last.0 two.mine.1) ∙ sym two.mine.2
      ]
      | inr ge ↦
          let is : one.number ≡ n = omega arith in
          one.mine.2 ∙ ap (λ (fs : List Frame). one.last.1 ∷ fs) (parent one.last.0 one.mine.1) ∙ sym one.theirs.2 ∙ ap (frames_at d.contexts) is
    ]
  where
    parent : (i : ℕ) → i < suc k → frames_at c.contexts i ≡ frames_at d.contexts i
    parent i lt = agree i lt

agree_below : (n : ℕ) (c d : Contents) → IsFinished c → IsFinished d → SameContents c d → n ≤ length c.contexts → AgreeBelow n c d
agree_below zero c d p q same le = λ k lt. absurd (omega arith)
agree_below (suc n) c d p q same le = λ k lt.
    let below : AgreeBelow n c d = agree_below n c d p q same (omega arith) in
    elim (cases_lt k n) [
      | inl less ↦ below k less
      | inr ge ↦
          let is : n ≡ k = omega arith in
          subst (λ (m : ℕ). frames_at c.contexts m ≡ frames_at d.contexts m) is (agree_at n c d p q same below (omega arith))
    ]

same_back : (c d : Contents) → SameContents c d → SameContents d c
same_back c d same = record {
  contexts = λ frames. ((same.contexts frames).1, (same.contexts frames).0);
  family = λ point. sym (same.family point);
}

-- neither has more contexts
no_more : (c d : Contents) → IsFinished c → IsFinished d → SameContents c d → length d.contexts ≤ length c.contexts
no_more c d p q same = elim (cases_lt (length c.contexts) (length d.contexts)) [
  | inl less ↦
      let some = p.0.some in
      let n : ℕ = length c.contexts in
      let more = is_there n d c q p (λ frames. (same.contexts frames).1) (agree_back n c d (agree_below n c d p q same (omega arith))) some less in
      let within = more.theirs.0 in
      let later = more.later in
      absurd (omega arith)
  | inr ge ↦ omega arith
]

same_contexts : (c d : Contents) → IsFinished c → IsFinished d → SameContents c d → c.contexts ≡ d.contexts
same_contexts c d p q same =
    let more = no_more c d p q same in
    let fewer = no_more d c q p (same_back c d same) in
    same_lists c.contexts d.contexts (omega arith) (λ k lt. agree_below (length c.contexts) c d p q same (omega arith) k (omega arith))

-- states

-- the points of a section's states ascend
all_above : (p q : ℕ × ℕ) (ks : List (ℕ × ℕ)) → place_cmp p q ≡ Less → AllByRecursion (λ r. place_cmp q r ≡ Less) ks → AllByRecursion (λ r. place_cmp p r ≡ Less) ks
all_above p q [] less all = tt
all_above p q (k ∷ ks) less all = (place_total.trans p q k less all.0, all_above p q ks less all.1)

next_above : (n : ℕ) (before : List Entry) (d e : Entry) → last_of before ≡ Some d → is_next_point n (last_point before) e.0 ≡ true → place_cmp d.0 e.0 ≡ Less
next_above n before d e last follows =
    less_from _ (ap (λ (o : Option Entry). option_map_or (λ q. is_lt (place_cmp q e.0)) (option_map (λ (x : Entry). x.0) o) true) (sym last) ∙ (both _ _ follows).1)

record Rise (before es : List Entry) : Type 0 where
  sorted : IsStrictlySortedBy place_cmp (keys_of es)
  above : (d : Entry) → last_of before ≡ Some d → AllByRecursion (λ q. place_cmp d.0 q ≡ Less) (keys_of es)

rise : (form : Form) (n : ℕ) (before es : List Entry) → EachAfter (EntryFits form n) before es → Rise before es
unfolding IsStrictlySortedBy
rise form n before [] h = record { sorted = tt; above = λ d last. tt }
rise form n before (e ∷ es) h =
    let more = rise form n (before ++ e ∷ []) es h.1 in
    let over = more.above e (last_pushed before e) in
    record {
      sorted = (over, more.sorted);
      above = λ d last. let less = next_above n before d e last h.0.point.follows in (less, all_above d.0 e.0 (keys_of es) less over);
    }

none_held : (c : Contents) (k o : ℕ) → IsFinished c → length c.contexts ≤ k → (found : Option State) → states_of c.states (k, o) ≡ found → found ≡ None
none_held c k o p ge None is = refl
none_held c k o p ge (Some s) is = let lt = p.0.held k o s is in absurd (omega arith)

-- both have the same state under a context's number and an offset
same_state : (c d : Contents) → IsFinished c → IsFinished d → SameContents c d → c.contexts ≡ d.contexts → (k o : ℕ) → states_of c.states (k, o) ≡ states_of d.states (k, o)
same_state c d p q same is k o = elim (cases_lt k (length c.contexts)) [
  | inl lt ↦
      let long = ap length is in
      let point : place_of d k o ≡ place_of c k o = ap (λ (l : List (List Frame)). (frames_at l k, o)) (sym is) in
      sym (family_at c k o p.0 lt) ∙ sym (same.family (place_of c k o)) ∙ ap (family_of d) (sym point) ∙ family_at d k o q.0 (omega arith)
  | inr ge ↦
      let long = ap length is in
      none_held c k o p (omega arith) _ refl ∙ sym (none_held d k o q (omega arith) _ refl)
]

pub one_text_of_a_family : (form : Form) (name : Name) (c d : Contents) → HasText form name c → HasText form name d → SameContents c d → family_text form name c ≡ family_text form name d
one_text_of_a_family form name c d p q same =
    let contexts = same_contexts c d p.finished q.finished same in
    let states : c.states ≡ d.states = same_points c.states d.states (rise form _ [] c.states p.fits.states).sorted (rise form _ [] d.states q.fits.states).sorted
    (λ (at : ℕ × ℕ). same_state c d p.finished q.finished same contexts at.0 at.1) in
    let both : c ≡ d = λ i. record { contexts = contexts i; states = states i } in
    ap (family_text form name) both
