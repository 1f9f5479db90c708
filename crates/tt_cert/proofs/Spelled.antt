-- The parts of a section and of a header, each with its text.
use Rattle.std.proofs.Common.{◌≡◌, ℕ, ℤ, ◌+◌, ◌^◌, ◌<◌, ◌≤◌, Bool, true, List, [], ◌++◌, length, Option, Some, None, Ok, refl, sym, ap, subst, arith, reverse, eqb, lit<, cond, inl, inr}
use Rattle.std.specs.Prelude.{nat_le, nat_lt, ◌&&◌, FitsSigned}
use Rattle.tt_family.specs.Contents.{frames_at}
use Rattle.tt_family.specs.Contexts.{frames_of}
use Rattle.std.specs.List.{flat_map}
use Rattle.std.specs.Int.{w32, cast_unsigned}
use Rattle.std.proofs.lemmas.Bool.{eqb-true, leb-true, le-leb, ltb-true}
use Rattle.std.proofs.lemmas.List.{reverse-reverse}
use Rattle.std.proofs.lemmas.Int.{to_z-of_z}
use Rattle.std.proofs.Math.Facts.{sfits_to_z, Fits-of_z, Fits-of_lt, Fits-lt-pow}
use Rattle.tt_abs.specs.Cells.{Cells}
use Rattle.tt_abs.specs.declared.cells.Cell.{Cell}
use Rattle.tt_abs.specs.declared.state.State.{State}
use Rattle.tt_cert.specs.declared.form.Form.{Form}
use Rattle.tt_cert.specs.declared.form.Form.TheVariants.{One, Two, Three, Four}
use Rattle.tt_cert.specs.Answers.{AreBytes}
use Rattle.tt_cert.specs.Forms.{form_number, form_of, most_contexts}
use Rattle.tt_cert.specs.Readers.{Answer, Input, and_then, given, list_at, made_of, place_after, ◌>>=◌}
use Rattle.tt_cert.specs.Reading.{Fields, Numbers, Parts, Registers, cell_at, context_at, context_count_at, context_from, contexts_at, entry_at, fields_at, form_at, function_at, functions_at, graphics_at, graphics_from, header_at, header_from, is_magic, long_at, magic_at, name_at, numbers_at, pair_at, parts_at, point_at, registers_at, section_at, section_from, stack_at, state_at, state_from, states_at, storage_at, stored_at, with_sign, word_at, zone_at}
use Rattle.tt_cert.specs.Rules.{CellFits, ContextFits, EachAfter, EntryFits, Fits, FunctionFits, GraphicsFits, ListFits, NameFits, PointFits, StateFits, StorageFits, StoredFits, is_above, is_above_context, is_new_body, is_next_point, is_turn, last_of, last_point, may_follow}
use Rattle.tt_cert.specs.Sections.{Context, Entry, Section}
use Rattle.tt_cert.specs.Text.{cell_text, context_text, counted, graphics_text, header_text, long, name_text, pair_text, section_text, state_text, storage_text, stored_text, word, zone_text}
use Rattle.tt_cert.proofs.Codecs.{IsCodec, Takes, and_then_codec, bind_ok, codec_of, counted_codec, given_ok, here, made_of_codec, ok_is, ruled_codec}
use Rattle.tt_cert.proofs.Fields.{PairFits, both, chosen, none_same, some_same, cell_codec, long_codec, name_codec, pair_codec, signed_back, word_codec, zone_codec}

-- contexts

AreNumbers : Numbers → Type 0
AreNumbers x = (x.0 < 2 ^ 16) × ((x.1.0 < 2 ^ 32) × ((x.1.1.0 < 2 ^ 32) × ((x.1.1.1.0 < 2 ^ 32) × (x.1.1.1.1 < 2 ^ 32))))

abbrev numbers_text : Numbers → List ℕ
numbers_text x = word x.0 ++ (long x.1.0 ++ (long x.1.1.0 ++ (long x.1.1.1.0 ++ long x.1.1.1.1)))

abbrev numbers_of : Context → Numbers
numbers_of c = (c.0, (c.1.call, (c.1.body, (c.1.turn, c.1.count))))

numbers_codec : IsCodec numbers_at numbers_text AreNumbers
unfolding AreNumbers
numbers_codec =
    let one : IsCodec long_at long (λ n. n < 2 ^ 32) = long_codec in
    and_then_codec word_at (λ _. and_then long_at (λ _. and_then long_at (λ _. and_then long_at (λ _. long_at)))) word (λ x. long x.0 ++ (long x.1.0 ++ (long x.1.1.0 ++ long x.1.1.1)))
    (λ n. n < 2 ^ 16) (λ _ x. (x.0 < 2 ^ 32) × ((x.1.0 < 2 ^ 32) × ((x.1.1.0 < 2 ^ 32) × (x.1.1.1 < 2 ^ 32)))) word_codec
    (λ _. and_then_codec long_at (λ _. and_then long_at (λ _. and_then long_at (λ _. long_at))) long (λ x. long x.0 ++ (long x.1.0 ++ long x.1.1))
    (λ n. n < 2 ^ 32) (λ _ x. (x.0 < 2 ^ 32) × ((x.1.0 < 2 ^ 32) × (x.1.1 < 2 ^ 32))) one
    (λ _. and_then_codec long_at (λ _. and_then long_at (λ _. long_at)) long (λ x. long x.0 ++ long x.1) (λ n. n < 2 ^ 32) (λ _ x. (x.0 < 2 ^ 32) × (x.1 < 2 ^ 32)) one
    (λ _. and_then_codec long_at (λ _. long_at) long long (λ n. n < 2 ^ 32) (λ _ n. n < 2 ^ 32) one (λ _. one))))

turn_fits : (c : Context) (before : List Context) → may_follow before c ≡ true → (c.1.turn < 2 ^ 32) × (c.1.count < 2 ^ 32)
turn_fits c before follows =
    let fresh : Bool = is_new_body (frames_at (frames_of before) c.0) c.1.body in
    let above : Bool = is_above_context (last_of before) c in
    let few : Bool = nat_lt c.1.count (2 ^ 31) in
    let after_parent = (both (nat_le c.0 (length before)) (above && (is_turn c.1 && fresh)) follows).1 in
    let turns = (both (is_turn c.1) fresh (both above (is_turn c.1 && fresh) after_parent).1).0 in
    let bounds = both (nat_le c.1.turn c.1.count) few (both (nat_le 1 c.1.turn) (nat_le c.1.turn c.1.count && few) turns).1 in
    let turn : c.1.turn ≤ c.1.count = leb-true c.1.turn c.1.count bounds.0 in
    let count : c.1.count < 2 ^ 31 = ltb-true c.1.count (2 ^ 31) bounds.1 in
    (omega arith, omega arith)

pub context_codec : (before : List Context) → IsCodec (context_at before) context_text (ContextFits before)
unfolding context_at AreNumbers
context_codec before =
    codec_of _ context_text (λ c. AreNumbers (numbers_of c) × (may_follow before c ≡ true)) (ContextFits before)
    (λ c h. record { parent = h.0.0; call = h.0.1.0; body = h.0.1.1.0; follows = h.1 })
    (λ c h. let turn = turn_fits c before h.follows in ((h.parent, (h.call, (h.body, turn))), h.follows))
    (ruled_codec (may_follow before) (made_of context_from numbers_at) context_text (λ c. AreNumbers (numbers_of c))
    (made_of_codec context_from numbers_of numbers_at numbers_text AreNumbers (λ c. AreNumbers (numbers_of c)) (λ a h. (refl, h)) (λ c h. (refl, h)) numbers_codec))

count_codec : (form : Form) → IsCodec (context_count_at form) word (λ n. (n < 2 ^ 16) × (nat_le n (most_contexts form) ≡ true))
count_codec form = ruled_codec (λ n. nat_le n (most_contexts form)) word_at word (λ n. n < 2 ^ 16) word_codec

most_is : (form : Form) → most_contexts form < 2 ^ 16
most_is One = lit< tt
most_is Two = lit< tt
most_is Three = lit< tt
most_is Four = lit< tt

record AreFewContexts (form : Form) (contexts : List Context) : Type 0 where
  few : length contexts ≤ most_contexts form
  each : EachAfter ContextFits [] contexts

contexts_codec : (form : Form) → IsCodec (contexts_at form) (counted context_text) (AreFewContexts form)
unfolding contexts_at
contexts_codec form =
    codec_of _ (counted context_text) (λ xs. ((length xs < 2 ^ 16) × (nat_le (length xs) (most_contexts form) ≡ true)) × EachAfter ContextFits [] xs) (AreFewContexts form)
    (λ xs h. record { few = leb-true _ _ h.0.1; each = h.1 })
    (λ xs h. let most = most_is form in let few = h.few in ((omega arith, le-leb _ _ h.few), h.each))
    (counted_codec (context_count_at form) word (λ n. (n < 2 ^ 16) × (nat_le n (most_contexts form) ≡ true)) context_at context_text ContextFits (count_codec form) context_codec)

-- lists of a state

list_codec : {A : Type 0} (one : List A → Input → Answer A) (spell : A → List ℕ) (P : List A → A → Type 0) → ((before : List A) → IsCodec (one before) spell (P before))
    → IsCodec (λ i. word_at i >>= (λ n. list_at one [] n.0 n.1)) (counted spell) (ListFits P)
list_codec one spell P each =
    codec_of _ (counted spell) (λ xs. (length xs < 2 ^ 16) × EachAfter P [] xs) (ListFits P) (λ xs h. record { few = h.0; each = h.1 }) (λ xs h. (h.few, h.each))
    (counted_codec word_at word (λ n. n < 2 ^ 16) one spell P word_codec each)

stack_codec : IsCodec stack_at (counted cell_text) (ListFits (λ _ cell. CellFits cell))
unfolding stack_at
stack_codec = list_codec (λ _. cell_at) cell_text (λ _ cell. CellFits cell) (λ _. cell_codec)

pub function_codec : (before : List (ℕ × ℕ)) → IsCodec (function_at before) pair_text (FunctionFits before)
unfolding function_at
function_codec before =
    codec_of _ pair_text (λ e. PairFits e × (is_above (last_of before) e ≡ true)) (FunctionFits before)
    (λ e h. record { number = h.0.0; body = h.0.1; ascends = h.1 }) (λ e h. ((h.number, h.body), h.ascends))
    (ruled_codec (is_above (last_of before)) pair_at pair_text PairFits pair_codec)

functions_codec : IsCodec functions_at (counted pair_text) (ListFits FunctionFits)
unfolding functions_at
functions_codec = list_codec function_at pair_text FunctionFits function_codec

abbrev without_sign : ℕ × ℤ → ℕ × ℕ
without_sign e = (e.0, cast_unsigned w32 e.1)

record IsStored (e : ℕ × ℤ) : Type 0 where
  index : e.0 < 2 ^ 16
  number : FitsSigned w32 e.1

signed_codec : IsCodec (made_of with_sign pair_at) stored_text IsStored
signed_codec = made_of_codec with_sign without_sign pair_at pair_text PairFits IsStored
    (λ p h. (signed_back p h, record { index = h.0; number = sfits_to_z (Fits-of_lt h.1) }))
    (λ e h. (ap (λ (z : ℤ). (e.0, z)) (to_z-of_z w32 e.1 h.number), (h.index, Fits-lt-pow (Fits-of_z h.number))))
    pair_codec

stored_codec : (before : List (ℕ × ℤ)) → IsCodec (stored_at before) stored_text (StoredFits before)
unfolding stored_at
stored_codec before =
    codec_of _ stored_text (λ e. IsStored e × (is_above (last_of before) e ≡ true)) (StoredFits before)
    (λ e h. record { index = h.0.index; number = h.0.number; ascends = h.1 }) (λ e h. (record { index = h.index; number = h.number }, h.ascends))
    (ruled_codec (is_above (last_of before)) (made_of with_sign pair_at) stored_text IsStored signed_codec)

none_codec : IsCodec (λ i. Ok ([], i)) (λ (xs : List (ℕ × ℤ)). []) (λ xs. xs ≡ [])
none_codec = record {
  takes = λ i xs j e bytes lt.
      subst (λ (r : List (ℕ × ℤ) × Input). Takes i [] r.1 × (r.0 ≡ []) × AreBytes r.1.bytes) (ok_is ([], i) (xs, j) e) (record { parts = refl; place = omega arith }, refl, bytes);
  again = λ xs place rest none lt. let n : place_after place 0 ≡ place = omega arith in rw (none, n) refl;
}

storage_codec : (form : Form) → IsCodec (storage_at form) (storage_text form) (StorageFits form)
unfolding storage_at
storage_codec One = none_codec
storage_codec Two = none_codec
storage_codec Three = list_codec stored_at stored_text StoredFits stored_codec
storage_codec Four = list_codec stored_at stored_text StoredFits stored_codec

-- the graphics state

RegistersFit : Registers → Type 0
RegistersFit x = CellFits x.0 × (CellFits x.1.0 × (CellFits x.1.1.0 × (Unit {0} × (Unit {0} × (Unit {0} × CellFits x.1.1.1.1.1.1)))))

abbrev registers_text : Registers → List ℕ
registers_text x = cell_text x.0 ++ (cell_text x.1.0 ++ (cell_text x.1.1.0 ++ (zone_text x.1.1.1.0 ++ (zone_text x.1.1.1.1.0 ++ (zone_text x.1.1.1.1.1.0 ++ cell_text x.1.1.1.1.1.1)))))

abbrev registers_of : Cells → Registers
registers_of g = (g.rp0, (g.rp1, (g.rp2, (g.zp0, (g.zp1, (g.zp2, g.loop_number))))))

-- a cell, or a zone, before what has a text
cell_first : {B : Type 0} (second : Input → Answer B) (spell : B → List ℕ) (P : B → Type 0) → IsCodec second spell P
    → IsCodec (and_then cell_at (λ _. second)) (λ x. cell_text x.0 ++ spell x.1) (λ x. CellFits x.0 × P x.1)
cell_first second spell P codec = and_then_codec cell_at (λ _. second) cell_text spell CellFits (λ _. P) cell_codec (λ _. codec)

zone_first : {B : Type 0} (second : Input → Answer B) (spell : B → List ℕ) (P : B → Type 0) → IsCodec second spell P
    → IsCodec (and_then zone_at (λ _. second)) (λ x. zone_text x.0 ++ spell x.1) (λ x. Unit {0} × P x.1)
zone_first second spell P codec = and_then_codec zone_at (λ _. second) zone_text spell (λ _. Unit {0}) (λ _. P) zone_codec (λ _. codec)

registers_codec : IsCodec registers_at registers_text RegistersFit
unfolding RegistersFit
registers_codec =
    cell_first _ _ _ (cell_first _ _ _ (cell_first _ _ _ (zone_first _ _ _ (zone_first _ _ _ (zone_first _ _ _ cell_codec)))))

pub graphics_codec : IsCodec graphics_at graphics_text GraphicsFits
unfolding graphics_at RegistersFit
graphics_codec = made_of_codec graphics_from registers_of registers_at registers_text RegistersFit GraphicsFits
    (λ x h. (refl, record { rp0 = h.0; rp1 = h.1.0; rp2 = h.1.1.0; loop_number = h.1.1.1.1.1.1 }))
    (λ g h. (refl, (h.rp0, (h.rp1, (h.rp2, (tt, (tt, (tt, h.loop_number))))))))
    registers_codec

-- states

PartsFit : Form → Parts → Type 0
PartsFit form x = ListFits (λ _ cell. CellFits cell) x.0 × (GraphicsFits x.1.0 × (ListFits FunctionFits x.1.1.0 × StorageFits form x.1.1.1))

abbrev parts_text : Form → Parts → List ℕ
parts_text form x = counted cell_text x.0 ++ (graphics_text x.1.0 ++ (counted pair_text x.1.1.0 ++ storage_text form x.1.1.1))

abbrev parts_of : State → Parts
parts_of s = (reverse s.stack, (s.graphics, (s.functions, s.storage)))

parts_codec : (form : Form) → IsCodec (parts_at form) (parts_text form) (PartsFit form)
unfolding PartsFit
parts_codec form =
    and_then_codec stack_at (λ _. and_then graphics_at (λ _. and_then functions_at (λ _. storage_at form))) (counted cell_text)
    (λ x. graphics_text x.0 ++ (counted pair_text x.1.0 ++ storage_text form x.1.1)) (ListFits (λ _ cell. CellFits cell))
    (λ _ x. GraphicsFits x.0 × (ListFits FunctionFits x.1.0 × StorageFits form x.1.1)) stack_codec
    (λ _. and_then_codec graphics_at (λ _. and_then functions_at (λ _. storage_at form)) graphics_text (λ x. counted pair_text x.0 ++ storage_text form x.1) GraphicsFits
    (λ _ x. ListFits FunctionFits x.0 × StorageFits form x.1) graphics_codec
    (λ _. and_then_codec functions_at (λ _. storage_at form) (counted pair_text) (storage_text form) (ListFits FunctionFits) (λ _. StorageFits form) functions_codec (λ _. storage_codec form)))

-- the text of a state without its place
abbrev plain_text : Form → State → List ℕ
plain_text form s = parts_text form (parts_of s)

plain_codec : (form : Form) → IsCodec (state_at form) (plain_text form) (StateFits form)
unfolding state_at PartsFit
plain_codec form = made_of_codec state_from parts_of (parts_at form) (parts_text form) (PartsFit form) (StateFits form)
    (λ x h. (
      ap (λ (l : List Cell). (l, x.1)) (reverse-reverse x.0),
      record { stack = subst (ListFits (λ _ cell. CellFits cell)) (sym (reverse-reverse x.0)) h.0; graphics = h.1.0; functions = h.1.1.0; storage = h.1.1.1 },
    ))
    (λ s h. (ap (λ (l : List Cell). record s { stack = l }) (reverse-reverse s.stack), (h.stack, (h.graphics, (h.functions, h.storage)))))
    (parts_codec form)

point_codec : (contexts : ℕ) (last : Option (ℕ × ℕ)) → IsCodec (point_at contexts last) pair_text (PointFits contexts last)
unfolding point_at
point_codec contexts last =
    codec_of _ pair_text (λ p. PairFits p × (is_next_point contexts last p ≡ true)) (PointFits contexts last)
    (λ p h. record { context = h.0.0; offset = h.0.1; follows = h.1 }) (λ p h. ((h.context, h.offset), h.follows))
    (ruled_codec (is_next_point contexts last) pair_at pair_text PairFits pair_codec)

entry_codec : (form : Form) (contexts : ℕ) (before : List Entry) → IsCodec (entry_at form contexts before) (state_text form) (EntryFits form contexts before)
unfolding entry_at
entry_codec form contexts before =
    codec_of _ (state_text form) (λ e. PointFits contexts (last_point before) e.0 × StateFits form e.1) (EntryFits form contexts before)
    (λ e h. record { point = h.0; state = h.1 }) (λ e h. (h.point, h.state))
    (and_then_codec (point_at contexts (last_point before)) (λ _. state_at form) pair_text (plain_text form) (PointFits contexts (last_point before)) (λ _. StateFits form)
    (point_codec contexts (last_point before)) (λ _. plain_codec form))

AreStates : Form → ℕ → List Entry → Type 0
AreStates form contexts states = (length states < 2 ^ 32) × EachAfter (EntryFits form contexts) [] states

states_codec : (form : Form) (contexts : ℕ) → IsCodec (states_at form contexts) (λ xs. long (length xs) ++ flat_map (state_text form) xs) (AreStates form contexts)
unfolding states_at AreStates
states_codec form contexts = counted_codec long_at long (λ n. n < 2 ^ 32) (entry_at form contexts) (state_text form) (EntryFits form contexts) long_codec (entry_codec form contexts)

-- sections

abbrev fields_text : Form → Fields → List ℕ
fields_text form x = name_text x.0 ++ (counted context_text x.1.0 ++ (long (length x.1.1) ++ flat_map (state_text form) x.1.1))

FieldsFit : Form → Fields → Type 0
FieldsFit form x = NameFits x.0 × (AreFewContexts form x.1.0 × AreStates form (length x.1.0 + 1) x.1.1)

fields_codec : (form : Form) → IsCodec (fields_at form) (fields_text form) (FieldsFit form)
unfolding FieldsFit
fields_codec form =
    and_then_codec name_at (λ _. and_then (contexts_at form) (λ contexts. states_at form (length contexts + 1))) name_text
    (λ x. counted context_text x.0 ++ (long (length x.1) ++ flat_map (state_text form) x.1)) NameFits
    (λ _ x. AreFewContexts form x.0 × AreStates form (length x.0 + 1) x.1) name_codec
    (λ _. and_then_codec (contexts_at form) (λ contexts. states_at form (length contexts + 1)) (counted context_text) (λ xs. long (length xs) ++ flat_map (state_text form) xs)
    (AreFewContexts form) (λ contexts. AreStates form (length contexts + 1)) (contexts_codec form) (λ contexts. states_codec form (length contexts + 1)))

abbrev fields_of : Section → Fields
fields_of s = (s.name, (s.contexts, s.states))

pub section_codec : (form : Form) → IsCodec (section_at form) (section_text form) (Fits form)
unfolding section_at FieldsFit AreStates
section_codec form = made_of_codec section_from fields_of (fields_at form) (fields_text form) (FieldsFit form) (Fits form)
    (λ x h. (refl, record { name = h.0; few_contexts = h.1.0.few; contexts = h.1.0.each; few_states = h.1.1.0; states = h.1.1.1 }))
    (λ s h. (refl, (h.name, (record { few = h.few_contexts; each = h.contexts }, (h.few_states, h.states)))))
    (fields_codec form)

-- headers

magic_codec : IsCodec magic_at long (λ n. (n < 2 ^ 32) × (is_magic n ≡ true))
unfolding magic_at
magic_codec = ruled_codec is_magic long_at long (λ n. n < 2 ^ 32) long_codec

form_word : Form → List ℕ
form_word form = word (form_number form)

IsFormOf : ℕ → Form → Type 0
IsFormOf n form = form_number form ≡ n

form_is : (n : ℕ) (form : Form) → form_of n ≡ Some form → IsFormOf n form
unfolding IsFormOf
form_is n form e =
    elim (chosen (eqb n 1) (Some One) (cond (eqb n 2) (Some Two) (cond (eqb n 3) (Some Three) (cond (eqb n 4) (Some Four) None))) (Some form) e) [
      | inl h ↦ subst (λ (x : Form). form_number x ≡ n) (some_same One form h.1) (sym (eqb-true n 1 h.0))
      | inr h ↦ elim (chosen (eqb n 2) (Some Two) (cond (eqb n 3) (Some Three) (cond (eqb n 4) (Some Four) None)) (Some form) h.1) [
        | inl f ↦ subst (λ (x : Form). form_number x ≡ n) (some_same Two form f.1) (sym (eqb-true n 2 f.0))
        | inr f ↦ elim (chosen (eqb n 3) (Some Three) (cond (eqb n 4) (Some Four) None) (Some form) f.1) [
          | inl g ↦ subst (λ (x : Form). form_number x ≡ n) (some_same Three form g.1) (sym (eqb-true n 3 g.0))
          | inr g ↦ elim (chosen (eqb n 4) (Some Four) None (Some form) g.1) [
            | inl q ↦ subst (λ (x : Form). form_number x ≡ n) (some_same Four form q.1) (sym (eqb-true n 4 q.0))
            | inr q ↦ absurd (none_same form q.1)
          ]
        ]
      ]
    ]

form_takes : (i : Input) (x : Form) (j : Input) → form_at i ≡ Ok (x, j) → AreBytes i.bytes → i.place < 2 ^ 64 → Takes i (form_word x) j × Unit {0} × AreBytes j.bytes
unfolding form_at form_word IsFormOf
form_takes i x j e bytes lt =
    let b = bind_ok (word_at i) (λ n. given i.place (form_of n.0) n.1) (x, j) e in
    let t = word_codec.takes i b.0.0 b.0.1 b.1 bytes lt in
    let r = given_ok i.place (form_of b.0.0) b.0.1 x j b.2 in
    let is = form_is b.0.0 x r.0 in
    (subst (λ (k : Input). Takes i (word (form_number x)) k) r.1 (subst (λ (n : ℕ). Takes i (word n) b.0.1) (sym is) t.0), tt, subst (λ (k : Input). AreBytes k.bytes) r.1 t.2)

number_fits : (form : Form) → form_number form < 2 ^ 16
number_fits One = lit< tt
number_fits Two = lit< tt
number_fits Three = lit< tt
number_fits Four = lit< tt

form_back : (form : Form) → form_of (form_number form) ≡ Some form
form_back One = refl
form_back Two = refl
form_back Three = refl
form_back Four = refl

form_again : (x : Form) (place : ℕ) (rest : List ℕ) → Unit {0} → place < 2 ^ 64 → form_at (here place (form_word x ++ rest)) ≡ Ok (x, here (place_after place (length (form_word x))) rest)
unfolding form_at form_word
form_again x place rest h lt = rw (word_codec.again (form_number x) place rest (number_fits x) lt, form_back x) refl

form_codec : IsCodec form_at form_word (λ _. Unit {0})
form_codec = record { takes = form_takes; again = form_again }

-- a header has few sections
abbrev pub HeaderFits : Form × ℕ → Type 0
HeaderFits x = x.1 < 2 ^ 32

HeaderParts : ℕ × (Form × ℕ) → Type 0
HeaderParts x = ((x.0 < 2 ^ 32) × (is_magic x.0 ≡ true)) × (Unit {0} × (x.1.1 < 2 ^ 32))

abbrev with_magic : Form × ℕ → ℕ × (Form × ℕ)
with_magic x = (0x48435254, x)

pub header_codec : IsCodec header_at (λ x. header_text x.0 x.1) HeaderFits
unfolding header_at form_word HeaderParts
header_codec = made_of_codec header_from with_magic (and_then magic_at (λ _. and_then form_at (λ _. long_at))) (λ x. long x.0 ++ (form_word x.1.0 ++ long x.1.1)) HeaderParts HeaderFits
    (λ x h. (ap (λ (n : ℕ). (n, x.1)) (sym (eqb-true x.0 0x48435254 h.0.1)), h.1.1))
    (λ x h. (refl, ((lit< tt, refl), (tt, h))))
    (and_then_codec magic_at (λ _. and_then form_at (λ _. long_at)) long (λ x. form_word x.0 ++ long x.1) (λ n. (n < 2 ^ 32) × (is_magic n ≡ true)) (λ _ x. Unit {0} × (x.1 < 2 ^ 32)) magic_codec
    (λ _. and_then_codec form_at (λ _. long_at) form_word long (λ _. Unit {0}) (λ _ n. n < 2 ^ 32) form_codec (λ _. long_codec)))
