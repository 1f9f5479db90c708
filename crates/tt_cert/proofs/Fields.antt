-- The units of a section, each with its text.
use Rattle.std.proofs.Common.{◌≡◌, ℕ, suc, ◌^◌, ◌<◌, Bool, true, false, cond, eqb, List, [], ◌∷◌, ◌++◌, length, take, drop, Option, Some, None, Ok, Err, refl, sym, ap, subst, ◌∙◌, arith, inl, inr, ◌⊎◌, slice_index, ◌&&◌}
use Rattle.std.specs.Int.{w16, w32, from_be_bytes, to_be_bytes, cast_signed, cast_unsigned}
use Rattle.std.proofs.lemmas.Bool.{eqb-true}
use Rattle.std.proofs.lemmas.List.{take-append-drop, length-take, length-drop, nil_from_length}
use Rattle.std.proofs.lemmas.Nat.{be_bytes_2, be_bytes_4, from_be_bytes-to_be_bytes_2, from_be_bytes-to_be_bytes_4}
use Rattle.std.proofs.lemmas.Int.{to_z-of_z, of_z-to_z}
use Rattle.std.proofs.Math.Facts.{sfits_to_z, Fits-of_z, Fits-of_lt, Fits-lt-pow}
use Rattle.tt_abs.specs.declared.cells.Cell.{Cell}
use Rattle.tt_abs.specs.declared.cells.Cell.TheVariants.{Known, Unknown}
use Rattle.tt_setting.specs.declared.zone.ZoneCell.{ZoneCell}
use Rattle.tt_setting.specs.declared.zone.ZoneCell.TheVariants as zone
use Rattle.tt_setting.specs.declared.name.Name.{Name}
use Rattle.tt_setting.specs.declared.name.Name.TheVariants as name
use Rattle.tt_cert.specs.Answers.{AreBytes}
use Rattle.tt_cert.specs.Readers.{Answer, Input, given, place_after, unit, ◌>>=◌}
use Rattle.tt_cert.specs.Reading.{cell_at, long_at, name_at, name_of, pair_at, word_at, zone_at, zone_of}
use Rattle.tt_cert.specs.Rules.{CellFits, NameFits}
use Rattle.tt_cert.specs.Text.{cell_text, long, name_text, pair_text, word, zone_text}
use Rattle.tt_cert.proofs.Codecs.{AreBytes-drop, AreBytes-take, IsCodec, Takes, Takes-then, bind_ok, given_ok, here, ok_is, unit_again, unit_takes}

-- numbers

word_takes : (i : Input) (n : ℕ) (j : Input) → word_at i ≡ Ok (n, j) → AreBytes i.bytes → i.place < 2 ^ 64 → Takes i (word n) j × (n < 2 ^ 16) × AreBytes j.bytes
unfolding word_at
word_takes i n j e fits lt =
    let b = bind_ok (unit 2 i) (λ u. Ok (from_be_bytes w16 u.0, u.1)) (n, j) e in
    let u = b.0 in
    let t = unit_takes 2 i u.0 u.1 b.1 in
    let bytes = t.2 fits in
    let is : to_be_bytes w16 (from_be_bytes w16 u.0) ≡ u.0 = be_bytes_2 u.0 (from_be_bytes w16 u.0) t.1 bytes.0 refl in
    subst (λ (p : ℕ × Input). Takes i (to_be_bytes w16 p.0) p.1 × (p.0 < 2 ^ 16) × AreBytes p.1.bytes) (ok_is (from_be_bytes w16 u.0, u.1) (n, j) b.2)
    (subst (λ (l : List ℕ). Takes i l u.1) (sym is) t.0, omega (arith, bytes.0 0, bytes.0 1), bytes.1)

word_again : (n place : ℕ) (rest : List ℕ) → n < 2 ^ 16 → place < 2 ^ 64 → word_at (here place (word n ++ rest)) ≡ Ok (n, here (place_after place (length (word n))) rest)
unfolding word_at
word_again n place rest lt within = rw (unit_again 2 place (to_be_bytes w16 n) rest refl, from_be_bytes-to_be_bytes_2 n lt) refl

pub word_codec : IsCodec word_at word (λ n. n < 2 ^ 16)
word_codec = record { takes = word_takes; again = word_again }

long_takes : (i : Input) (n : ℕ) (j : Input) → long_at i ≡ Ok (n, j) → AreBytes i.bytes → i.place < 2 ^ 64 → Takes i (long n) j × (n < 2 ^ 32) × AreBytes j.bytes
unfolding long_at
long_takes i n j e fits lt =
    let b = bind_ok (unit 4 i) (λ u. Ok (from_be_bytes w32 u.0, u.1)) (n, j) e in
    let u = b.0 in
    let t = unit_takes 4 i u.0 u.1 b.1 in
    let bytes = t.2 fits in
    let is : to_be_bytes w32 (from_be_bytes w32 u.0) ≡ u.0 = be_bytes_4 u.0 (from_be_bytes w32 u.0) t.1 bytes.0 refl in
    subst (λ (p : ℕ × Input). Takes i (to_be_bytes w32 p.0) p.1 × (p.0 < 2 ^ 32) × AreBytes p.1.bytes) (ok_is (from_be_bytes w32 u.0, u.1) (n, j) b.2)
    (subst (λ (l : List ℕ). Takes i l u.1) (sym is) t.0, omega (arith, bytes.0 0, bytes.0 1, bytes.0 2, bytes.0 3), bytes.1)

long_again : (n place : ℕ) (rest : List ℕ) → n < 2 ^ 32 → place < 2 ^ 64 → long_at (here place (long n ++ rest)) ≡ Ok (n, here (place_after place (length (long n))) rest)
unfolding long_at
long_again n place rest lt within = rw (unit_again 4 place (to_be_bytes w32 n) rest refl, from_be_bytes-to_be_bytes_4 n lt) refl

pub long_codec : IsCodec long_at long (λ n. n < 2 ^ 32)
long_codec = record { takes = long_takes; again = long_again }

abbrev pub PairFits : ℕ × ℕ → Type 0
PairFits p = (p.0 < 2 ^ 16) × (p.1 < 2 ^ 32)

pair_takes : (i : Input) (x : ℕ × ℕ) (j : Input) → pair_at i ≡ Ok (x, j) → AreBytes i.bytes → i.place < 2 ^ 64 → Takes i (pair_text x) j × PairFits x × AreBytes j.bytes
unfolding pair_at
pair_takes i x j e fits lt =
    let made : List ℕ → ℕ × ℕ = λ u. (from_be_bytes w16 (take 2 u), from_be_bytes w32 (drop 2 u)) in
    let b = bind_ok (unit 6 i) (λ u. Ok (made u.0, u.1)) (x, j) e in
    let u = b.0.0 in
    let k = b.0.1 in
    let t = unit_takes 6 i u k b.1 in
    let bytes = t.2 fits in
    let first = AreBytes-take 2 u bytes.0 in
    let second = AreBytes-drop 2 u bytes.0 in
    let front : to_be_bytes w16 (from_be_bytes w16 (take 2 u)) ≡ take 2 u = be_bytes_2 (take 2 u) (from_be_bytes w16 (take 2 u)) (omega (arith, t.1, length-take 2 u)) first refl in
    let back : to_be_bytes w32 (from_be_bytes w32 (drop 2 u)) ≡ drop 2 u = be_bytes_4 (drop 2 u) (from_be_bytes w32 (drop 2 u)) (simp length-drop (omega (arith, t.1))) second refl in
    let spelled : pair_text (made u) ≡ u =
    ap (λ (l : List ℕ). l ++ to_be_bytes w32 (from_be_bytes w32 (drop 2 u))) front ∙ ap (λ (l : List ℕ). take 2 u ++ l) back ∙ take-append-drop 2 u in
    subst (λ (r : (ℕ × ℕ) × Input). Takes i (pair_text r.0) r.1 × PairFits r.0 × AreBytes r.1.bytes) (ok_is (made u, k) (x, j) b.2)
    (subst (λ (l : List ℕ). Takes i l k) (sym spelled) t.0, (omega (arith, first 0, first 1), omega (arith, second 0, second 1, second 2, second 3)), bytes.1)

pair_again : (x : ℕ × ℕ) (place : ℕ) (rest : List ℕ) → PairFits x → place < 2 ^ 64 → pair_at (here place (pair_text x ++ rest)) ≡ Ok (x, here (place_after place (length (pair_text x))) rest)
unfolding pair_at
pair_again x place rest h within = rw (unit_again 6 place (pair_text x) rest refl, from_be_bytes-to_be_bytes_2 x.0 h.0, from_be_bytes-to_be_bytes_4 x.1 h.1) refl

pub pair_codec : IsCodec pair_at pair_text PairFits
pair_codec = record { takes = pair_takes; again = pair_again }

-- a number of 32 bits as one with a sign, and back

pub unsigned32 : (n : ℕ) → n < 2 ^ 32 → cast_unsigned w32 (cast_signed w32 n) ≡ n
unsigned32 n lt = of_z-to_z w32 n lt

-- names

pub chosen : {A : Type 0} (b : Bool) (x y z : A) → cond b x y ≡ z → ((b ≡ true) × (x ≡ z)) ⊎ ((b ≡ false) × (y ≡ z))
chosen true x y z e = inl (refl, e)
chosen false x y z e = inr (refl, e)

-- two tests that are passed
pub both : (a b : Bool) → (a && b) ≡ true → (a ≡ true) × (b ≡ true)
both true b e = (refl, e)
both false b e = absurd cc

pub some : {A : Type 0} → A → Option A
some x = Some x

pub some_is : {A : Type 0} (x y : A) → Some x ≡ some y → x ≡ y
unfolding some
some_is x y e = cc

pub none_is : {A : Type 0} (y : A) → None ≡ some y → ⊥
unfolding some
none_is y e = cc

pub some_same : {A : Type 0} (x y : A) → ◌≡◌ {A = Option A} (Some x) (Some y) → x ≡ y
some_same x y e = cc

pub none_same : {A : Type 0} (y : A) → ◌≡◌ {A = Option A} None (Some y) → ⊥
none_same y e = cc

IsSpelled : ℕ → ℕ → Name → Type 0
IsSpelled kind glyph y = (name_text y ≡ kind ∷ to_be_bytes w16 glyph) × NameFits y

name_spelled : (kind glyph : ℕ) (x : Name) → glyph < 2 ^ 16 → name_of kind glyph ≡ Some x → IsSpelled kind glyph x
unfolding some IsSpelled
name_spelled kind glyph x lt e =
    elim (chosen (eqb kind 2) (Some (name.Glyph glyph)) (cond (eqb kind 0 && eqb glyph 0) (Some name.Font) (cond (eqb kind 1 && eqb glyph 0) (Some name.Cvt) None)) (Some x) e) [
      | inl h ↦ subst (λ (k : ℕ). IsSpelled k glyph x) (sym (eqb-true kind 2 h.0)) (subst (IsSpelled 2 glyph) (some_is (name.Glyph glyph) x h.1) (refl, lt))
      | inr h ↦ elim (chosen (eqb kind 0 && eqb glyph 0) (Some name.Font) (cond (eqb kind 1 && eqb glyph 0) (Some name.Cvt) None) (Some x) h.1) [
        | inl f ↦ let t = both (eqb kind 0) (eqb glyph 0) f.0 in
            subst (λ (k : ℕ). IsSpelled k glyph x) (sym (eqb-true kind 0 t.0)) (subst (λ (n : ℕ). IsSpelled 0 n x) (sym (eqb-true glyph 0 t.1)) (subst (IsSpelled 0 0) (some_is name.Font x f.1) (refl, tt)))
        | inr f ↦ elim (chosen (eqb kind 1 && eqb glyph 0) (Some name.Cvt) None (Some x) f.1) [
          | inl q ↦ let t = both (eqb kind 1) (eqb glyph 0) q.0 in
              subst (λ (k : ℕ). IsSpelled k glyph x) (sym (eqb-true kind 1 t.0)) (subst (λ (n : ℕ). IsSpelled 1 n x) (sym (eqb-true glyph 0 t.1)) (subst (IsSpelled 1 0) (some_is name.Cvt x q.1) (refl, tt)))
          | inr q ↦ absurd (none_is x q.1)
        ]
      ]
    ]

-- a unit of some bytes begins with the first of them
unit_cons : (n : ℕ) (u : List ℕ) → length u ≡ suc n → u ≡ slice_index u 0 ∷ drop 1 u
unit_cons n [] e = absurd (omega (arith, e))
unit_cons n (b ∷ u) e = refl

-- one of a single byte is that byte
unit_one : (u : List ℕ) → length u ≡ 1 → u ≡ slice_index u 0 ∷ []
unit_one u len = unit_cons 0 u len ∙ ap (λ (l : List ℕ). slice_index u 0 ∷ l) (nil_from_length (drop 1 u) (simp length-drop (omega (arith, len))))

name_takes : (i : Input) (x : Name) (j : Input) → name_at i ≡ Ok (x, j) → AreBytes i.bytes → i.place < 2 ^ 64 → Takes i (name_text x) j × NameFits x × AreBytes j.bytes
unfolding name_at IsSpelled
name_takes i x j e fits within =
    let b = bind_ok (unit 3 i) (λ u. given i.place (name_of (slice_index u.0 0) (from_be_bytes w16 (drop 1 u.0))) u.1) (x, j) e in
    let u = b.0.0 in
    let t = unit_takes 3 i u b.0.1 b.1 in
    let bytes = t.2 fits in
    let tail = AreBytes-drop 1 u bytes.0 in
    let r = given_ok i.place (name_of (slice_index u 0) (from_be_bytes w16 (drop 1 u))) b.0.1 x j b.2 in
    let glyph : from_be_bytes w16 (drop 1 u) < 2 ^ 16 = omega (arith, tail 0, tail 1) in
    let s = name_spelled (slice_index u 0) (from_be_bytes w16 (drop 1 u)) x glyph r.0 in
    let back : to_be_bytes w16 (from_be_bytes w16 (drop 1 u)) ≡ drop 1 u = be_bytes_2 (drop 1 u) (from_be_bytes w16 (drop 1 u)) (simp length-drop (omega (arith, t.1))) tail refl in
    let is : name_text x ≡ u = s.0 ∙ ap (λ (l : List ℕ). slice_index u 0 ∷ l) back ∙ sym (unit_cons 2 u t.1) in
    (subst (λ (k : Input). Takes i (name_text x) k) r.1 (subst (λ (l : List ℕ). Takes i l b.0.1) (sym is) t.0), s.1, subst (λ (k : Input). AreBytes k.bytes) r.1 bytes.1)

name_again : (x : Name) (place : ℕ) (rest : List ℕ) → NameFits x → place < 2 ^ 64 → name_at (here place (name_text x ++ rest)) ≡ Ok (x, here (place_after place (length (name_text x))) rest)
unfolding name_at
name_again name.Font place rest h within = rw (unit_again 3 place (name_text name.Font) rest refl) refl
name_again name.Cvt place rest h within = rw (unit_again 3 place (name_text name.Cvt) rest refl) refl
name_again (name.Glyph id) place rest h within = rw (unit_again 3 place (name_text (name.Glyph id)) rest refl, from_be_bytes-to_be_bytes_2 id h) refl

pub name_codec : IsCodec name_at name_text NameFits
name_codec = record { takes = name_takes; again = name_again }

-- zones

IsZone : ℕ → ZoneCell → Type 0
IsZone byte z = zone_text z ≡ byte ∷ []

zone_spelled : (byte : ℕ) (x : ZoneCell) → zone_of byte ≡ Some x → IsZone byte x
unfolding some IsZone
zone_spelled byte x e = elim (chosen (eqb byte 0) (Some zone.Zero) (cond (eqb byte 1) (Some zone.One) (cond (eqb byte 2) (Some zone.Either) None)) (Some x) e) [
  | inl h ↦ subst (λ (k : ℕ). IsZone k x) (sym (eqb-true byte 0 h.0)) (subst (IsZone 0) (some_is zone.Zero x h.1) refl)
  | inr h ↦ elim (chosen (eqb byte 1) (Some zone.One) (cond (eqb byte 2) (Some zone.Either) None) (Some x) h.1) [
    | inl f ↦ subst (λ (k : ℕ). IsZone k x) (sym (eqb-true byte 1 f.0)) (subst (IsZone 1) (some_is zone.One x f.1) refl)
    | inr f ↦ elim (chosen (eqb byte 2) (Some zone.Either) None (Some x) f.1) [
      | inl q ↦ subst (λ (k : ℕ). IsZone k x) (sym (eqb-true byte 2 q.0)) (subst (IsZone 2) (some_is zone.Either x q.1) refl)
      | inr q ↦ absurd (none_is x q.1)
    ]
  ]
]

zone_takes : (i : Input) (x : ZoneCell) (j : Input) → zone_at i ≡ Ok (x, j) → AreBytes i.bytes → i.place < 2 ^ 64 → Takes i (zone_text x) j × Unit {0} × AreBytes j.bytes
unfolding zone_at IsZone
zone_takes i x j e fits within =
    let b = bind_ok (unit 1 i) (λ u. given i.place (zone_of (slice_index u.0 0)) u.1) (x, j) e in
    let u = b.0.0 in
    let t = unit_takes 1 i u b.0.1 b.1 in
    let r = given_ok i.place (zone_of (slice_index u 0)) b.0.1 x j b.2 in
    let is : zone_text x ≡ u = zone_spelled (slice_index u 0) x r.0 ∙ sym (unit_one u t.1) in
    let bytes = t.2 fits in
    (subst (λ (k : Input). Takes i (zone_text x) k) r.1 (subst (λ (l : List ℕ). Takes i l b.0.1) (sym is) t.0), tt, subst (λ (k : Input). AreBytes k.bytes) r.1 bytes.1)

zone_again : (x : ZoneCell) (place : ℕ) (rest : List ℕ) → Unit {0} → place < 2 ^ 64 → zone_at (here place (zone_text x ++ rest)) ≡ Ok (x, here (place_after place (length (zone_text x))) rest)
unfolding zone_at
zone_again zone.Zero place rest h within = rw (unit_again 1 place (0 ∷ []) rest refl) refl
zone_again zone.One place rest h within = rw (unit_again 1 place (1 ∷ []) rest refl) refl
zone_again zone.Either place rest h within = rw (unit_again 1 place (2 ∷ []) rest refl) refl

pub zone_codec : IsCodec zone_at zone_text (λ _. Unit {0})
zone_codec = record { takes = zone_takes; again = zone_again }

-- cells

cell_ok : Cell → Input → Answer Cell
cell_ok c j = Ok (c, j)

ok_cell_is : (c : Cell) (k : Input) (r : Cell × Input) → cell_ok c k ≡ Ok r → ◌≡◌ {A = Cell × Input} (c, k) r
unfolding cell_ok
ok_cell_is c k r e = cc

no_cell : (p : ℕ) (r : Cell × Input) → Err p ≡ cell_ok r.0 r.1 → ⊥
unfolding cell_ok
no_cell p r e = cc

IsCell : Input → Cell × Input → Type 0
IsCell i r = Takes i (cell_text r.0) r.1 × CellFits r.0 × AreBytes r.1.bytes

cell_takes : (i : Input) (x : Cell) (j : Input) → cell_at i ≡ Ok (x, j) → AreBytes i.bytes → i.place < 2 ^ 64 → Takes i (cell_text x) j × CellFits x × AreBytes j.bytes
unfolding cell_at IsCell cell_ok
cell_takes i x j e fits within =
    let number : List ℕ × Input → Answer Cell = λ n. Ok (Known (cast_signed w32 (from_be_bytes w32 n.0)), n.1) in
    let b = bind_ok (unit 1 i) (λ t. cond (eqb (slice_index t.0 0) 0) (Ok (Unknown, t.1)) (cond (eqb (slice_index t.0 0) 1) (unit 4 t.1 >>= number) (Err i.place))) (x, j) e in
    let u = b.0.0 in
    let k = b.0.1 in
    let t = unit_takes 1 i u k b.1 in
    let bytes = t.2 fits in
    let tag = slice_index u 0 in
    let one_byte : u ≡ tag ∷ [] = unit_one u t.1 in
    elim (chosen (eqb tag 0) (Ok (Unknown, k)) (cond (eqb tag 1) (unit 4 k >>= number) (Err i.place)) (Ok (x, j)) b.2) [
      | inl h ↦
          let is : u ≡ 0 ∷ [] = one_byte ∙ ap (λ (n : ℕ). n ∷ []) (eqb-true tag 0 h.0) in
          subst (IsCell i) (ok_cell_is Unknown k (x, j) h.1) (subst (λ (l : List ℕ). Takes i l k) is t.0, tt, bytes.1)
      | inr h ↦ elim (chosen (eqb tag 1) (unit 4 k >>= number) (Err i.place) (Ok (x, j)) h.1) [
        | inl f ↦
            let is : u ≡ 1 ∷ [] = one_byte ∙ ap (λ (n : ℕ). n ∷ []) (eqb-true tag 1 f.0) in
            let c = bind_ok (unit 4 k) number (x, j) f.1 in
            let v = c.0.0 in
            let s = unit_takes 4 k v c.0.1 c.1 in
            let more = s.2 bytes.1 in
            let n = from_be_bytes w32 v in
            let lt : n < 2 ^ 32 = omega (arith, more.0 0, more.0 1, more.0 2, more.0 3) in
            let back : to_be_bytes w32 n ≡ v = be_bytes_4 v n s.1 more.0 refl in
            let spelled : cell_text (Known (cast_signed w32 n)) ≡ (1 ∷ []) ++ v = ap (λ (m : ℕ). 1 ∷ to_be_bytes w32 m) (unsigned32 n lt) ∙ ap (λ (l : List ℕ). 1 ∷ l) back in
            let whole = Takes-then i (1 ∷ []) k v c.0.1 (subst (λ (l : List ℕ). Takes i l k) is t.0) s.0 in
            subst (IsCell i) (ok_cell_is (Known (cast_signed w32 n)) c.0.1 (x, j) c.2) (subst (λ (l : List ℕ). Takes i l c.0.1) (sym spelled) whole, sfits_to_z (Fits-of_lt lt), more.1)
        | inr f ↦ absurd (no_cell i.place (x, j) f.1)
      ]
    ]

cell_again : (x : Cell) (place : ℕ) (rest : List ℕ) → CellFits x → place < 2 ^ 64 → cell_at (here place (cell_text x ++ rest)) ≡ Ok (x, here (place_after place (length (cell_text x))) rest)
unfolding cell_at
cell_again Unknown place rest h within = rw (unit_again 1 place (0 ∷ []) rest refl) refl
cell_again (Known z) place rest h within =
    let n = cast_unsigned w32 z in
    let p : place_after (place_after place 1) 4 ≡ place_after place 5 = omega arith in
    rw (unit_again 1 place (1 ∷ []) (to_be_bytes w32 n ++ rest) refl, unit_again 4 (place_after place 1) (to_be_bytes w32 n) rest refl, from_be_bytes-to_be_bytes_4 n (Fits-lt-pow (Fits-of_z h)), to_z-of_z w32 z h, p) refl

pub cell_codec : IsCodec cell_at cell_text CellFits
cell_codec = record { takes = cell_takes; again = cell_again }

-- a number of 16 bits and one that has a sign

pub signed_back : (p : ℕ × ℕ) → PairFits p → ◌≡◌ {A = ℕ × ℕ} (p.0, cast_unsigned w32 (cast_signed w32 p.1)) p
signed_back p h = ap (λ (n : ℕ). (p.0, n)) (unsigned32 p.1 h.1)
