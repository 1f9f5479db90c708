-- Taking operands on cells and on numbers: what the cells refuse, some covered numbers refuse, and where they don't, all covered
-- numbers are split at the same place.
use Rattle.std.specs.Prelude.{ℤ, negsuc, ◌&&◌}
use Rattle.std.proofs.Common.{◌≡◌, ℕ, zero, suc, List, [], ◌∷◌, ◌++◌, Ok, Err, refl, ◌∙◌, ap, subst, inl, inr, ◌⊎◌, Bool, true, false, append_assoc}
use Rattle.tt_code.specs.Refusals.{Tested, ◌>>=◌, holds_or}
use Rattle.tt_code.specs.Settings.{Setting, ZoneNumber, Zero, One, zone_size, contours_in}
use Rattle.tt_code.specs.States.{is_below, reference, pointer}
use Rattle.tt_code.specs.Operands.{Taking, take_one, tested, then_take, times, counted, pair, pairs, count_of, is_zone, is_point, take_operand, take_operands, test_uses}
use Rattle.tt_code.specs.declared.reason.Reason.{Reason}
use Rattle.tt_code.specs.declared.reason.Reason.TheVariants as reason
use Rattle.tt_code.specs.declared.kinds.Within.{Within}
use Rattle.tt_code.specs.declared.kinds.Within.TheVariants.{In, Both, GlyphAnd}
use Rattle.tt_code.specs.declared.kinds.Operand.{Operand}
use Rattle.tt_code.specs.declared.kinds.Operand.TheVariants as operand
use Rattle.tt_code.specs.declared.kinds.Use.{Use}
use Rattle.tt_code.specs.declared.kinds.Pointer.{Pointer}
use Rattle.tt_code.specs.declared.kinds.Pointer.TheVariants.{Zp2}
use Rattle.tt_abs.specs.declared.cells.Cell.{Cell}
use Rattle.tt_abs.specs.declared.cells.Cell.TheVariants.{Known, Unknown}
use Rattle.tt_setting.specs.declared.zone.ZoneCell.{ZoneCell}
use Rattle.tt_setting.specs.declared.zone.ZoneCell.TheVariants as zone
use Rattle.tt_abs.specs.Cells.{Covers, CoversZone, CoversStack, Cells, Numbers, CoversGraphics}
use Rattle.tt_abs.specs.Transfers.{known, is_point_in, tested_cell, known_count, take_cell, take_cells, test_cell_uses}
use Rattle.tt_setting.specs.Settings.{is_below_in}
use Rattle.tt_abs.proofs.Choosing.{minus_one_is_number, some_stack, covers_append, same_below, some_graphics, choose_pointer, choose_reference, choose_loop, pointer_covered, reference_covered}

-- what is taken from numbers is taken from a list: the numbers taken and those below are the list again, each covered
pub record Splits (taken rest : List Cell) (numbers : List ℤ) (result : Tested (Taking ℤ)) : Type 0 where
  pub front : List ℤ
  pub below : List ℤ
  pub result_is : result ≡ Ok (front, below)
  pub joined : front ++ below ≡ numbers
  pub front_covered : CoversStack taken front
  pub below_covered : CoversStack rest below

pub record Fails (a : Cells) (cells : List Cell) (take : Numbers → List ℤ → Tested (Taking ℤ)) : Type 0 where
  pub graphics : Numbers
  pub numbers : List ℤ
  pub graphics_covered : CoversGraphics a graphics
  pub numbers_covered : CoversStack cells numbers
  pub reason : Reason
  pub fails : take graphics numbers ≡ Err reason

pub record AlwaysSplits (a : Cells) (cells taken rest : List Cell) (take : Numbers → List ℤ → Tested (Taking ℤ)) : Type 0 where
  pub joined : taken ++ rest ≡ cells
  pub splits : (g : Numbers) (ns : List ℤ) → CoversGraphics a g → CoversStack cells ns → Splits taken rest ns (take g ns)

-- what is taken from the cells stands for what is taken from the numbers
abbrev pub StandsFor : Cells → List Cell → (Numbers → List ℤ → Tested (Taking ℤ)) → Tested (Taking Cell) → Type 0
StandsFor a cells take (Ok t) = AlwaysSplits a cells t.0 t.1 take
StandsFor a cells take (Err n) = Fails a cells take

-- one call after another

fails_first : (a : Cells) (cells : List Cell) (first second : Numbers → List ℤ → Tested (Taking ℤ))
    → Fails a cells first → Fails a cells (λ g ns. then_take (first g ns) (second g))
fails_first a cells first second h = record {
  graphics = h.graphics;
  numbers = h.numbers;
  graphics_covered = h.graphics_covered;
  numbers_covered = h.numbers_covered;
  reason = h.reason;
  fails = rw h.fails refl;
}

fails_second : (a : Cells) (cells taken rest : List Cell) (first second : Numbers → List ℤ → Tested (Taking ℤ))
    → AlwaysSplits a cells taken rest first → Fails a rest second → Fails a cells (λ g ns. then_take (first g ns) (second g))
fails_second a cells taken rest first second h k =
    let (front, c) = some_stack taken in
    let C : List Cell → Type 0 = λ xs. CoversStack xs (front ++ k.numbers) in
    let covered : CoversStack cells (front ++ k.numbers) = subst C h.joined (covers_append taken rest front k.numbers c k.numbers_covered) in
    let s = h.splits k.graphics (front ++ k.numbers) k.graphics_covered covered in
    let same : s.below ≡ k.numbers = same_below taken s.front front s.below k.numbers s.front_covered c s.joined in
    record {
      graphics = k.graphics;
      numbers = front ++ k.numbers;
      graphics_covered = k.graphics_covered;
      numbers_covered = covered;
      reason = k.reason;
      fails = rw (s.result_is, same, k.fails) refl;
    }

splits_twice : (a : Cells) (cells taken rest more end : List Cell) (first second : Numbers → List ℤ → Tested (Taking ℤ))
    → AlwaysSplits a cells taken rest first → AlwaysSplits a rest more end second → AlwaysSplits a cells (taken ++ more) end (λ g ns. then_take (first g ns) (second g))
splits_twice a cells taken rest more end first second h k = record {
  joined = append_assoc taken more end ∙ ap (λ x. taken ++ x) k.joined ∙ h.joined;
  splits = λ g ns cg cs.
      let s = h.splits g ns cg cs in
      let t = k.splits g s.below cg s.below_covered in
      record {
        front = s.front ++ t.front;
        below = t.below;
        result_is = rw (s.result_is, t.result_is) refl;
        joined = append_assoc s.front t.front t.below ∙ ap (λ x. s.front ++ x) t.joined ∙ s.joined;
        front_covered = covers_append taken more s.front t.front s.front_covered t.front_covered;
        below_covered = t.below_covered;
      };
}

pub then_take_stands : (a : Cells) (cells : List Cell) (first second : Numbers → List ℤ → Tested (Taking ℤ)) (cells_first : Tested (Taking Cell)) (cells_second : List Cell → Tested (Taking Cell))
    → StandsFor a cells first cells_first → ((rest : List Cell) → StandsFor a rest second (cells_second rest))
    → StandsFor a cells (λ g ns. then_take (first g ns) (second g)) (then_take cells_first cells_second)
then_take_stands a cells first second (Err n) cells_second h k = fails_first a cells first second h
then_take_stands a cells first second (Ok t) cells_second h k = go (cells_second t.1) (k t.1)
  where
    go : (r : Tested (Taking Cell)) → StandsFor a t.1 second r → StandsFor a cells (λ g ns. then_take (first g ns) (second g)) (r >>= (λ b. Ok (t.0 ++ b.0, b.1)))
    go (Err n) w = fails_second a cells t.0 t.1 first second h w
    go (Ok u) w = splits_twice a cells t.0 t.1 u.0 u.1 first second h w

pub stands_same : (a : Cells) (cells : List Cell) (take other : Numbers → List ℤ → Tested (Taking ℤ)) (r : Tested (Taking Cell))
    → ((g : Numbers) (ns : List ℤ) → CoversGraphics a g → CoversStack cells ns → other g ns ≡ take g ns) → StandsFor a cells take r → StandsFor a cells other r
stands_same a cells take other (Ok t) same h = record {
  joined = h.joined;
  splits = λ g ns cg cs.
      let s = h.splits g ns cg cs in
      record {
        front = s.front;
        below = s.below;
        result_is = same g ns cg cs ∙ s.result_is;
        joined = s.joined;
        front_covered = s.front_covered;
        below_covered = s.below_covered;
      };
}
stands_same a cells take other (Err n) same h = record {
  graphics = h.graphics;
  numbers = h.numbers;
  graphics_covered = h.graphics_covered;
  numbers_covered = h.numbers_covered;
  reason = h.reason;
  fails = same h.graphics h.numbers h.graphics_covered h.numbers_covered ∙ h.fails;
}

-- Tests of one number.

-- the test on cells holds exactly if the test on numbers does for all covered zones; -1 never passes
pub record Agrees (a : Cells) (test : Numbers → ℤ → Bool) (passes : ℤ → Bool) : Type 0 where
  pub passing : (z : ℤ) → passes z ≡ true → (g : Numbers) → CoversGraphics a g → test g z ≡ true
  pub failing : (z : ℤ) → passes z ≡ false → (g : Numbers) × CoversGraphics a g × (test g z ≡ false)
  pub minus_one : passes (negsuc 0) ≡ false

-- a test that reads no zone
pub agrees_alone : (a : Cells) (test : ℤ → Bool) → test (negsuc 0) ≡ false → Agrees a (λ g. test) test
agrees_alone a test e = record {
  passing = λ z h g c. h;
  failing = λ z h. let (g, c) = some_graphics a in (g, c, h);
  minus_one = e;
}

and_true : (a b : Bool) → a && b ≡ true → (a ≡ true) × (b ≡ true)
and_true true b h = (refl, h)
and_true false b h = absurd (cc)

and_false : (a b : Bool) → a && b ≡ false → (a ≡ false) ⊎ (b ≡ false)
and_false true b h = inr h
and_false false b h = inl refl

below_in_true : (bound : ZoneNumber → ℕ) (c : ZoneCell) (z : ℤ) (p : ZoneNumber) → is_below_in bound c z ≡ true → CoversZone c p → is_below z (bound p) ≡ true
below_in_true bound zone.Zero z Zero h k = h
below_in_true bound zone.Zero z One h k = absurd k
below_in_true bound zone.One z Zero h k = absurd k
below_in_true bound zone.One z One h k = h
below_in_true bound zone.Either z Zero h k = (and_true (is_below z (bound Zero)) (is_below z (bound One)) h).0
below_in_true bound zone.Either z One h k = (and_true (is_below z (bound Zero)) (is_below z (bound One)) h).1

below_in_false : (bound : ZoneNumber → ℕ) (c : ZoneCell) (z : ℤ) → is_below_in bound c z ≡ false → (p : ZoneNumber) × CoversZone c p × (is_below z (bound p) ≡ false)
below_in_false bound zone.Zero z h = (Zero, tt, h)
below_in_false bound zone.One z h = (One, tt, h)
below_in_false bound zone.Either z h =
    elim (and_false (is_below z (bound Zero)) (is_below z (bound One)) h) [ inl k ↦ (Zero, tt, k) | inr k ↦ (One, tt, k) ]

below_in_minus_one : (bound : ZoneNumber → ℕ) (c : ZoneCell) → is_below_in bound c (negsuc 0) ≡ false
below_in_minus_one bound zone.Zero = refl
below_in_minus_one bound zone.One = refl
below_in_minus_one bound zone.Either = refl

-- a bound by one pointer's zone
pub agrees_in : (a : Cells) (bound : ZoneNumber → ℕ) (p : Pointer) → Agrees a (λ g z. is_below z (bound (pointer p g))) (is_below_in bound (pointer p a))
agrees_in a bound p = record {
  passing = λ z h g c. below_in_true bound (pointer p a) z (pointer p g) h (pointer_covered a g p c);
  failing = λ z h.
      let (zone, covered, fails) = below_in_false bound (pointer p a) z h in
      let (g, c, e) = choose_pointer a p zone covered in (g, c, ap (λ x. is_below z (bound x)) e ∙ fails);
  minus_one = below_in_minus_one bound (pointer p a);
}

-- both of two tests
pub agrees_both : (a : Cells) (t u : Numbers → ℤ → Bool) (p q : ℤ → Bool) → Agrees a t p → Agrees a u q → Agrees a (λ g z. t g z && u g z) (λ z. p z && q z)
agrees_both a t u p q h k = record {
  passing = λ z e g c. let (x, y) = and_true (p z) (q z) e in rw (h.passing z x g c, k.passing z y g c) refl;
  failing = λ z e. elim (and_false (p z) (q z) e) [
    | inl x ↦ (let (g, c, f) = h.failing z x in (g, c, rw f refl))
    | inr y ↦ (let (g, c, f) = k.failing z y in (g, c, second_false (t g z) (u g z) f))
  ];
  minus_one = rw h.minus_one refl;
}
  where
    second_false : (x y : Bool) → y ≡ false → x && y ≡ false
    second_false true y e = e
    second_false false y e = refl

pub agrees_point : (s : Setting) (a : Cells) (within : Within) → Agrees a (λ g. is_point s g within) (is_point_in s a within)
agrees_point s a (In p) = agrees_in a (zone_size s) p
agrees_point s a (Both p q) = agrees_both a (λ g z. is_below z (zone_size s (pointer p g))) (λ g z. is_below z (zone_size s (pointer q g)))
    (is_below_in (zone_size s) (pointer p a)) (is_below_in (zone_size s) (pointer q a)) (agrees_in a (zone_size s) p) (agrees_in a (zone_size s) q)
agrees_point s a (GlyphAnd p) = agrees_both a (λ g z. is_below z (zone_size s One)) (λ g z. is_below z (zone_size s (pointer p g)))
    (λ z. is_below z (zone_size s One)) (is_below_in (zone_size s) (pointer p a)) (agrees_alone a (λ z. is_below z (zone_size s One)) refl) (agrees_in a (zone_size s) p)

-- Each kind of operand.

fails_empty : (a : Cells) (take : Numbers → List ℤ → Tested (Taking ℤ)) (n : Reason) → ((g : Numbers) → take g [] ≡ Err n) → Fails a [] take
fails_empty a take n h = let (g, c) = some_graphics a in record {
  graphics = g;
  numbers = [];
  graphics_covered = c;
  numbers_covered = tt;
  reason = n;
  fails = h g;
}

pub take_one_stands : (a : Cells) (cells : List Cell) → StandsFor a cells (λ g. take_one) (take_one cells)
take_one_stands a [] = fails_empty a (λ g. take_one) reason.Underflow (λ g. refl)
take_one_stands a (c ∷ cs) = record { joined = refl; splits = splits }
  where
    splits : (g : Numbers) (ns : List ℤ) → CoversGraphics a g → CoversStack (c ∷ cs) ns → Splits (c ∷ []) cs ns (take_one ns)
    splits g [] cg h = absurd h
    splits g (n ∷ ns) cg h = record { front = n ∷ []; below = ns; result_is = refl; joined = refl; front_covered = (h.0, tt); below_covered = h.1 }

pub tested_stands : (a : Cells) (test : Numbers → ℤ → Bool) (passes : ℤ → Bool) (r : Reason) → Agrees a test passes
    → (cells : List Cell) → StandsFor a cells (λ g. tested (test g) r) (tested_cell passes r cells)
tested_stands a test passes r h [] = fails_empty a (λ g. tested (test g) r) reason.Underflow (λ g. refl)
tested_stands a test passes r h (Unknown ∷ cs) =
    let (g, c, f) = h.failing (negsuc 0) h.minus_one in
    let (ns, covered) = some_stack cs in
    record { graphics = g; numbers = negsuc 0 ∷ ns; graphics_covered = c; numbers_covered = (minus_one_is_number, covered); reason = r; fails = rw f refl }
tested_stands a test passes r h (Known k ∷ cs) = go (passes k) refl
  where
    go : (b : Bool) → passes k ≡ b → StandsFor a (Known k ∷ cs) (λ g. tested (test g) r) (holds_or b r >>= (λ ok. Ok (Known k ∷ [], cs)))
    go true e = record { joined = refl; splits = splits }
      where
        splits : (g : Numbers) (ns : List ℤ) → CoversGraphics a g → CoversStack (Known k ∷ cs) ns → Splits (Known k ∷ []) cs ns (tested (test g) r ns)
        splits g [] cg w = absurd w
        splits g (n ∷ ns) cg w = record {
          front = n ∷ [];
          below = ns;
          result_is = rw (w.0, h.passing k e g cg) refl;
          joined = refl;
          front_covered = (w.0, tt);
          below_covered = w.1;
        }
    go false e =
        let (g, c, f) = h.failing k e in
        let (ns, covered) = some_stack cs in
        record { graphics = g; numbers = k ∷ ns; graphics_covered = c; numbers_covered = (refl, covered); reason = r; fails = rw f refl }

pub times_stands : (a : Cells) (n : ℕ) (one : Numbers → List ℤ → Tested (Taking ℤ)) (cells_one : List Cell → Tested (Taking Cell))
    → ((cells : List Cell) → StandsFor a cells one (cells_one cells)) → (cells : List Cell) → StandsFor a cells (λ g. times n (one g)) (times n cells_one cells)
times_stands a zero one cells_one h cells = record {
  joined = refl;
  splits = λ g ns cg cs. record { front = []; below = ns; result_is = refl; joined = refl; front_covered = tt; below_covered = cs };
}
times_stands a (suc n) one cells_one h cells =
    then_take_stands a cells one (λ g. times n (one g)) (cells_one cells) (times n cells_one) (h cells) (times_stands a n one cells_one h)

pub counted_stands : (a : Cells) (count : Tested ℕ) (one : Numbers → List ℤ → Tested (Taking ℤ)) (cells_one : List Cell → Tested (Taking Cell))
    → ((cells : List Cell) → StandsFor a cells one (cells_one cells)) → (cells : List Cell) → StandsFor a cells (λ g. counted count (one g)) (counted count cells_one cells)
counted_stands a (Ok n) one cells_one h cells = times_stands a n one cells_one h cells
counted_stands a (Err n) one cells_one h cells =
    let (g, c) = some_graphics a in
    let (ns, covered) = some_stack cells in
    record { graphics = g; numbers = ns; graphics_covered = c; numbers_covered = covered; reason = n; fails = refl }

pub pair_stands : (a : Cells) (one : Numbers → List ℤ → Tested (Taking ℤ)) (cells_one : List Cell → Tested (Taking Cell))
    → ((cells : List Cell) → StandsFor a cells one (cells_one cells)) → (cells : List Cell) → StandsFor a cells (λ g. pair (one g)) (pair cells_one cells)
pair_stands a one cells_one h cells = then_take_stands a cells one (λ g. take_one) (cells_one cells) take_one (h cells) (take_one_stands a)

pub pairs_stands : (a : Cells) (one : Numbers → List ℤ → Tested (Taking ℤ)) (cells_one : List Cell → Tested (Taking Cell))
    → ((cells : List Cell) → StandsFor a cells one (cells_one cells)) → (cells : List Cell) → StandsFor a cells (λ g. pairs count_of (one g)) (pairs known_count cells_one cells)
pairs_stands a one cells_one h [] = fails_empty a (λ g. pairs count_of (one g)) reason.Underflow (λ g. refl)
pairs_stands a one cells_one h (Unknown ∷ cs) =
    let (g, c) = some_graphics a in
    let (ns, covered) = some_stack cs in
    record { graphics = g; numbers = negsuc 0 ∷ ns; graphics_covered = c; numbers_covered = (minus_one_is_number, covered); reason = reason.Count; fails = refl }
pairs_stands a one cells_one h (Known k ∷ cs) =
    stands_same a (Known k ∷ cs) (λ g ns. then_take (take_one ns) (counted (count_of k) (pair (one g)))) (λ g. pairs count_of (one g)) (pairs known_count cells_one (Known k ∷ cs)) same
    (then_take_stands a (Known k ∷ cs) (λ g. take_one) (λ g. counted (count_of k) (pair (one g))) (take_one (Known k ∷ cs)) (counted (count_of k) (pair cells_one))
    (take_one_stands a (Known k ∷ cs))
    (counted_stands a (count_of k) (λ g. pair (one g)) (pair cells_one) (pair_stands a one cells_one h)))
  where
    same : (g : Numbers) (ns : List ℤ) → CoversGraphics a g → CoversStack (Known k ∷ cs) ns → pairs count_of (one g) ns ≡ then_take (take_one ns) (counted (count_of k) (pair (one g)))
    same g [] cg w = absurd w
    same g (n ∷ ns) cg w = rw w.0 refl

pub loop_stands : (a : Cells) (one : Numbers → List ℤ → Tested (Taking ℤ)) (cells_one : List Cell → Tested (Taking Cell))
    → ((cells : List Cell) → StandsFor a cells one (cells_one cells)) → (cells : List Cell)
    → StandsFor a cells (λ g. counted (count_of g.loop_number) (one g)) (counted (known_count a.loop_number) cells_one cells)
loop_stands a one cells_one h cells = go a.loop_number (λ g c. c.loop_number) (choose_loop a)
  where
    go : (c : Cell) → ((g : Numbers) → CoversGraphics a g → Covers c g.loop_number)
        → ((n : ℤ) → Covers c n → (g : Numbers) × CoversGraphics a g × (g.loop_number ≡ n))
        → StandsFor a cells (λ g. counted (count_of g.loop_number) (one g)) (counted (known_count c) cells_one cells)
    go Unknown covered choose =
        let (g, c, e) = choose (negsuc 0) minus_one_is_number in
        let (ns, cs) = some_stack cells in
        record { graphics = g; numbers = ns; graphics_covered = c; numbers_covered = cs; reason = reason.Count; fails = rw e refl }
    go (Known k) covered choose =
        stands_same a cells (λ g. counted (count_of k) (one g)) (λ g. counted (count_of g.loop_number) (one g)) (counted (count_of k) cells_one cells)
        (λ g ns cg cs. ap (λ x. counted (count_of x) (one g) ns) (covered g cg)) (counted_stands a (count_of k) one cells_one h cells)

pub operand_stands : (s : Setting) (a : Cells) (o : Operand) (cells : List Cell) → StandsFor a cells (λ g. take_operand s g o) (take_cell s a o cells)
operand_stands s a operand.Number cells = take_one_stands a cells
operand_stands s a (operand.Point within) cells = tested_stands a (λ g. is_point s g within) (is_point_in s a within) reason.Point (agrees_point s a within) cells
operand_stands s a operand.Cvt cells = tested_stands a (λ g z. is_below z s.cvt) (λ z. is_below z s.cvt) reason.Cvt (agrees_alone a (λ z. is_below z s.cvt) refl) cells
operand_stands s a operand.Storage cells = tested_stands a (λ g z. is_below z s.limits.storage) (λ z. is_below z s.limits.storage) reason.Storage (agrees_alone a (λ z. is_below z s.limits.storage) refl) cells
operand_stands s a operand.Zone cells = tested_stands a (λ g. is_zone s) (is_zone s) reason.Zone (agrees_alone a (is_zone s) refl) cells
operand_stands s a operand.Contour cells = tested_stands a (λ g z. is_below z (contours_in s g.zp2)) (is_below_in (contours_in s) a.zp2) reason.Contour (agrees_in a (contours_in s) Zp2) cells
operand_stands s a (operand.LoopPoints within) cells =
    loop_stands a (λ g. tested (is_point s g within) reason.Point) (tested_cell (is_point_in s a within) reason.Point) (tested_stands a (λ g. is_point s g within) (is_point_in s a within) reason.Point (agrees_point s a within)) cells
operand_stands s a (operand.PointPairs within) cells =
    pairs_stands a (λ g. tested (is_point s g within) reason.Point) (tested_cell (is_point_in s a within) reason.Point) (tested_stands a (λ g. is_point s g within) (is_point_in s a within) reason.Point (agrees_point s a within)) cells
operand_stands s a operand.CvtPairs cells =
    pairs_stands a (λ g. tested (λ z. is_below z s.cvt) reason.Cvt) (tested_cell (λ z. is_below z s.cvt) reason.Cvt) (tested_stands a (λ g z. is_below z s.cvt) (λ z. is_below z s.cvt) reason.Cvt (agrees_alone a (λ z. is_below z s.cvt) refl)) cells

pub operands_stand : (s : Setting) (a : Cells) (os : List Operand) (cells : List Cell) → StandsFor a cells (λ g. take_operands s g os) (take_cells s a os cells)
operands_stand s a [] cells = times_stands a 0 (λ g. take_one) take_one (take_one_stands a) cells
operands_stand s a (o ∷ os) cells =
    then_take_stands a cells (λ g. take_operand s g o) (λ g. take_operands s g os) (take_cell s a o cells) (take_cells s a os) (operand_stands s a o cells) (operands_stand s a os)

-- Uses.

abbrev pub TestStandsFor : Cells → (Numbers → Tested (Unit {0})) → Tested (Unit {0}) → Type 0
TestStandsFor a test (Ok u) = (g : Numbers) → CoversGraphics a g → test g ≡ Ok tt
TestStandsFor a test (Err n) = (g : Numbers) × CoversGraphics a g × ((k : Reason) × (test g ≡ Err k))

pub uses_stand : (s : Setting) (a : Cells) (us : List Use) → TestStandsFor a (λ g. test_uses s g us) (test_cell_uses s a us)
uses_stand s a [] = λ g c. refl
uses_stand s a (u ∷ us) = go (reference u.reference a) (λ g c. reference_covered a g u.reference c) (choose_reference a u.reference) (uses_stand s a us)
  where
    later : (z : ℤ) → ((g : Numbers) → CoversGraphics a g → reference u.reference g ≡ z) → (b : Bool) → is_below_in (zone_size s) (pointer u.pointer a) z ≡ b
        → (r : Tested (Unit {0})) → TestStandsFor a (λ g. test_uses s g us) r → TestStandsFor a (λ g. test_uses s g (u ∷ us)) (holds_or b reason.Point >>= (λ ok. r))
    later z same true e (Ok x) h = λ g c. rw (same g c, (agrees_in a (zone_size s) u.pointer).passing z e g c) (h g c)
    later z same true e (Err n) h =
        (h.0, h.1, (h.2.0, rw (same h.0 h.1, (agrees_in a (zone_size s) u.pointer).passing z e h.0 h.1) h.2.1))
    later z same false e r h =
        let (g, c, f) = (agrees_in a (zone_size s) u.pointer).failing z e in (g, c, (reason.Point, rw (same g c, f) refl))

    go : (c : Cell) → ((g : Numbers) → CoversGraphics a g → Covers c (reference u.reference g))
        → ((n : ℤ) → Covers c n → (g : Numbers) × CoversGraphics a g × (reference u.reference g ≡ n))
        → TestStandsFor a (λ g. test_uses s g us) (test_cell_uses s a us)
        → TestStandsFor a (λ g. test_uses s g (u ∷ us))
        (known c >>= (λ z. holds_or (is_below_in (zone_size s) (pointer u.pointer a) z) reason.Point >>= (λ ok. test_cell_uses s a us)))
    go Unknown covered choose rest =
        let (g, c, e) = choose (negsuc 0) minus_one_is_number in (g, c, (reason.Point, rw e refl))
    go (Known k) covered choose rest = later k covered (is_below_in (zone_size s) (pointer u.pointer a) k) refl (test_cell_uses s a us) rest
