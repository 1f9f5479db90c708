-- Choosing numbers that cells cover, where one of them may be chosen freely.
use Rattle.std.specs.Prelude.{ℤ, pos, negsuc}
use Rattle.std.proofs.Common.{◌≡◌, List, [], ◌∷◌, ◌++◌, refl, rules}
use Rattle.tt_code.specs.Settings.{ZoneNumber, Zero, One}
use Rattle.tt_code.specs.States.{IsNumber, reference, pointer}
use Rattle.tt_code.specs.declared.kinds.Pointer.{Pointer}
use Rattle.tt_code.specs.declared.kinds.Pointer.TheVariants.{Zp0, Zp1, Zp2}
use Rattle.tt_code.specs.declared.kinds.Reference.{Reference}
use Rattle.tt_code.specs.declared.kinds.Reference.TheVariants.{Rp0, Rp1, Rp2}
use Rattle.tt_abs.specs.declared.cells.Cell.{Cell}
use Rattle.tt_abs.specs.declared.cells.Cell.TheVariants.{Known, Unknown}
use Rattle.tt_setting.specs.declared.zone.ZoneCell.{ZoneCell}
use Rattle.tt_setting.specs.declared.zone.ZoneCell.TheVariants as zone
use Rattle.tt_abs.specs.Cells.{Covers, CoversZone, CoversStack, Cells, Numbers, CoversGraphics}

pub zero_is_number : IsNumber (pos 0)
zero_is_number = search rules

pub one_is_number : IsNumber (pos 1)
one_is_number = search rules

pub minus_one_is_number : IsNumber (negsuc 0)
minus_one_is_number = search rules

pub some_covered : (c : Cell) → (n : ℤ) × Covers c n
some_covered (Known k) = (k, refl)
some_covered Unknown = (pos 0, zero_is_number)

pub some_stack : (cells : List Cell) → (ns : List ℤ) × CoversStack cells ns
some_stack [] = ([], tt)
some_stack (c ∷ cs) = let (n, h) = some_covered c in let (ns, hs) = some_stack cs in (n ∷ ns, (h, hs))

pub covers_append : (xs ys : List Cell) (ms ns : List ℤ) → CoversStack xs ms → CoversStack ys ns → CoversStack (xs ++ ys) (ms ++ ns)
covers_append [] ys [] ns p q = q
covers_append [] ys (m ∷ ms) ns p q = absurd p
covers_append (x ∷ xs) ys [] ns p q = absurd p
covers_append (x ∷ xs) ys (m ∷ ms) ns p q = (p.0, covers_append xs ys ms ns p.1 q)

-- two covered fronts of one list are the same
pub same_below : (xs : List Cell) (ms ns p q : List ℤ) → CoversStack xs ms → CoversStack xs ns → ms ++ p ≡ ns ++ q → p ≡ q
same_below [] [] [] p q h k e = e
same_below [] (m ∷ ms) ns p q h k e = absurd h
same_below [] [] (n ∷ ns) p q h k e = absurd k
same_below (x ∷ xs) [] ns p q h k e = absurd h
same_below (x ∷ xs) (m ∷ ms) [] p q h k e = absurd k
same_below (x ∷ xs) (m ∷ ms) (n ∷ ns) p q h k e = let tails : ms ++ p ≡ ns ++ q = cc in same_below xs ms ns p q h.1 k.1 tails

pub some_zone : (c : ZoneCell) → (p : ZoneNumber) × CoversZone c p
some_zone zone.Zero = (Zero, tt)
some_zone zone.One = (One, tt)
some_zone zone.Either = (Zero, tt)

pub some_graphics : (a : Cells) → (g : Numbers) × CoversGraphics a g
some_graphics a = (
  record {
    rp0 = (some_covered a.rp0).0;
    rp1 = (some_covered a.rp1).0;
    rp2 = (some_covered a.rp2).0;
    zp0 = (some_zone a.zp0).0;
    zp1 = (some_zone a.zp1).0;
    zp2 = (some_zone a.zp2).0;
    loop_number = (some_covered a.loop_number).0;
  },
  record {
    rp0 = (some_covered a.rp0).1;
    rp1 = (some_covered a.rp1).1;
    rp2 = (some_covered a.rp2).1;
    zp0 = (some_zone a.zp0).1;
    zp1 = (some_zone a.zp1).1;
    zp2 = (some_zone a.zp2).1;
    loop_number = (some_covered a.loop_number).1;
  },
)

pub choose_pointer : (a : Cells) (p : Pointer) (z : ZoneNumber) → CoversZone (pointer p a) z → (g : Numbers) × CoversGraphics a g × (pointer p g ≡ z)
choose_pointer a Zp0 z h = let (g, c) = some_graphics a in (record g { zp0 = z }, record { rp0 = c.rp0; rp1 = c.rp1; rp2 = c.rp2; zp0 = h; zp1 = c.zp1; zp2 = c.zp2; loop_number = c.loop_number }, refl)
choose_pointer a Zp1 z h = let (g, c) = some_graphics a in (record g { zp1 = z }, record { rp0 = c.rp0; rp1 = c.rp1; rp2 = c.rp2; zp0 = c.zp0; zp1 = h; zp2 = c.zp2; loop_number = c.loop_number }, refl)
choose_pointer a Zp2 z h = let (g, c) = some_graphics a in (record g { zp2 = z }, record { rp0 = c.rp0; rp1 = c.rp1; rp2 = c.rp2; zp0 = c.zp0; zp1 = c.zp1; zp2 = h; loop_number = c.loop_number }, refl)

pub choose_reference : (a : Cells) (r : Reference) (n : ℤ) → Covers (reference r a) n → (g : Numbers) × CoversGraphics a g × (reference r g ≡ n)
choose_reference a Rp0 n h = let (g, c) = some_graphics a in (record g { rp0 = n }, record { rp0 = h; rp1 = c.rp1; rp2 = c.rp2; zp0 = c.zp0; zp1 = c.zp1; zp2 = c.zp2; loop_number = c.loop_number }, refl)
choose_reference a Rp1 n h = let (g, c) = some_graphics a in (record g { rp1 = n }, record { rp0 = c.rp0; rp1 = h; rp2 = c.rp2; zp0 = c.zp0; zp1 = c.zp1; zp2 = c.zp2; loop_number = c.loop_number }, refl)
choose_reference a Rp2 n h = let (g, c) = some_graphics a in (record g { rp2 = n }, record { rp0 = c.rp0; rp1 = c.rp1; rp2 = h; zp0 = c.zp0; zp1 = c.zp1; zp2 = c.zp2; loop_number = c.loop_number }, refl)

pub choose_loop : (a : Cells) (n : ℤ) → Covers a.loop_number n → (g : Numbers) × CoversGraphics a g × (g.loop_number ≡ n)
choose_loop a n h = let (g, c) = some_graphics a in (record g { loop_number = n }, record { rp0 = c.rp0; rp1 = c.rp1; rp2 = c.rp2; zp0 = c.zp0; zp1 = c.zp1; zp2 = c.zp2; loop_number = h }, refl)

pub pointer_covered : (a : Cells) (g : Numbers) (p : Pointer) → CoversGraphics a g → CoversZone (pointer p a) (pointer p g)
pointer_covered a g Zp0 h = h.zp0
pointer_covered a g Zp1 h = h.zp1
pointer_covered a g Zp2 h = h.zp2

pub reference_covered : (a : Cells) (g : Numbers) (r : Reference) → CoversGraphics a g → Covers (reference r a) (reference r g)
reference_covered a g Rp0 h = h.rp0
reference_covered a g Rp1 h = h.rp1
reference_covered a g Rp2 h = h.rp2
