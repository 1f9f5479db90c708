-- The readers of a section and of a header look at no byte past what they take.
use Rattle.std.proofs.Common.{ℕ, ℤ, nat_le, Bool, true, false, cond, eqb, List, [], length, ◌+◌, drop, slice_index, Option, Ok, Err, ◌≡◌, sym, ap, subst, ◌∙◌, refl, inl, inr, ◌⊎◌}
use Rattle.std.specs.Int.{w16, w32, from_be_bytes, cast_signed}
use Rattle.tt_abs.specs.Cells.{Cells}
use Rattle.tt_abs.specs.declared.cells.Cell.{Cell}
use Rattle.tt_abs.specs.declared.cells.Cell.TheVariants.{Known, Unknown}
use Rattle.tt_setting.specs.declared.zone.ZoneCell.{ZoneCell}
use Rattle.tt_cert.specs.declared.form.Form.{Form}
use Rattle.tt_cert.specs.declared.form.Form.TheVariants.{One, Two, Three, Four}
use Rattle.tt_setting.specs.declared.cert_fault.CertFault.{CertFault}
use Rattle.tt_cert.specs.Answers.{StopsAtEnd}
use Rattle.tt_cert.specs.Forms.{form_of, most_contexts}
use Rattle.tt_cert.specs.Readers.{Answer, Input, and_then, given, list_at, made_of, unit}
use Rattle.tt_cert.specs.Reading.{cell_at, context_at, context_count_at, context_from, contexts_at, counted_at, entry_after, entry_at, form_at, function_at, functions_at, graphics_at, graphics_from, is_magic, long_at, magic_at, name_at, name_of, numbers_at, pair_at, pair_from, parts_at, point_at, registers_at, stack_at, state_at, state_from, states_at, storage_at, stored_at, with_sign, word_at, zone_at, zone_of}
use Rattle.tt_cert.specs.Rules.{is_above, is_next_point, last_of, last_point, may_follow}
use Rattle.tt_cert.specs.Sections.{Context, Entry}
use Rattle.tt_cert.proofs.Steady.{IsSteady, and_then_steady, done_steady, given_steady, list_steady, made_of_steady, refused_steady, ruled_steady, step, step_steady, unit_steady}
use Rattle.tt_cert.proofs.Stops.{stops_in}

pub word_steady : IsSteady word_at
unfolding word_at
word_steady = step_steady (unit 2) (λ _ u j. Ok (from_be_bytes w16 u, j)) (unit_steady 2) (λ _ u. done_steady (from_be_bytes w16 u))

pub long_steady : IsSteady long_at
unfolding long_at
long_steady = step_steady (unit 4) (λ _ u j. Ok (from_be_bytes w32 u, j)) (unit_steady 4) (λ _ u. done_steady (from_be_bytes w32 u))

pub pair_steady : IsSteady pair_at
unfolding pair_at
pair_steady = step_steady (unit 6) (λ _ u j. Ok (pair_from u, j)) (unit_steady 6) (λ _ u. done_steady (pair_from u))

pub name_steady : IsSteady name_at
unfolding name_at
name_steady =
    step_steady (unit 3) (λ p u j. given p (name_of (slice_index u 0) (from_be_bytes w16 (drop 1 u))) j) (unit_steady 3)
    (λ p u. given_steady p (name_of (slice_index u 0) (from_be_bytes w16 (drop 1 u))))

-- a known cell's number
abbrev pub number_at : Input → Answer Cell
number_at = step (unit 4) (λ _ u j. Ok (Known (cast_signed w32 (from_be_bytes w32 u)), j))

number_steady : IsSteady number_at
number_steady = step_steady (unit 4) (λ _ u j. Ok (Known (cast_signed w32 (from_be_bytes w32 u)), j)) (unit_steady 4) (λ _ u. done_steady (Known (cast_signed w32 (from_be_bytes w32 u))))

-- what follows a cell's tag
abbrev pub after_tag : ℕ → List ℕ → Input → Answer Cell
after_tag place tag j = cond (eqb (slice_index tag 0) 0) (Ok (Unknown, j)) (cond (eqb (slice_index tag 0) 1) (number_at j) (Err place))

tag_steady : (zero one : Bool) (place : ℕ) → IsSteady (λ j. cond zero (Ok (Unknown, j)) (cond one (number_at j) (Err place)))
tag_steady true one place = done_steady Unknown
tag_steady false true place = number_steady
tag_steady false false place = refused_steady place

pub cell_steady : IsSteady cell_at
unfolding cell_at
cell_steady = step_steady (unit 1) after_tag (unit_steady 1) (λ p tag. tag_steady (eqb (slice_index tag 0) 0) (eqb (slice_index tag 0) 1) p)

-- a read failed in the number of a known cell
pub stops_in_number : (place at : ℕ) (old new : Option (List ℕ)) (tag : List ℕ) (e : CertFault) → slice_index tag 0 ≡ 1
    → StopsAtEnd at old new (unit 4) e → StopsAtEnd at old new (after_tag place tag) e
stops_in_number place at old new tag e is stops =
    let F : ℕ → Type 0 = λ t. StopsAtEnd at old new (λ j. cond (eqb t 0) (Ok (Unknown, j)) (cond (eqb t 1) (number_at j) (Err place))) e in
    subst F (sym is) (stops_in (unit 4) (λ _ u j. Ok (Known (cast_signed w32 (from_be_bytes w32 u)), j)) at old new e stops)

pub zone_steady : IsSteady zone_at
unfolding zone_at
zone_steady = step_steady (unit 1) (λ p u j. given p (zone_of (slice_index u 0)) j) (unit_steady 1) (λ p u. given_steady p (zone_of (slice_index u 0)))

pub counted_steady : {A : Type 0} (one : List A → Input → Answer A) → ((before : List A) → IsSteady (one before)) → IsSteady (counted_at one)
counted_steady one each = step_steady word_at (λ _ n. list_at one [] n) word_steady (λ _ n. list_steady one each n [])

-- the last numbers of a context
abbrev pub two_longs : Input → Answer (ℕ × ℕ)
two_longs = and_then long_at (λ _. long_at)

abbrev pub three_longs : Input → Answer (ℕ × (ℕ × ℕ))
three_longs = and_then long_at (λ _. two_longs)

abbrev pub after_parent : Input → Answer (ℕ × (ℕ × (ℕ × ℕ)))
after_parent = and_then long_at (λ _. three_longs)

numbers_steady : IsSteady numbers_at
numbers_steady =
    and_then_steady word_at _ word_steady (λ _. and_then_steady long_at _ long_steady (λ _. and_then_steady long_at _ long_steady (λ _. and_then_steady long_at _ long_steady (λ _. long_steady))))

pub context_steady : (before : List Context) → IsSteady (context_at before)
unfolding context_at
context_steady before = ruled_steady (may_follow before) (made_of context_from numbers_at) (made_of_steady context_from numbers_at numbers_steady)

pub count_steady : (form : Form) → IsSteady (context_count_at form)
count_steady form = ruled_steady (λ n. nat_le n (most_contexts form)) word_at word_steady

pub contexts_steady : (form : Form) → IsSteady (contexts_at form)
unfolding contexts_at
contexts_steady form = step_steady (context_count_at form) (λ _ n. list_at context_at [] n) (count_steady form) (λ _ n. list_steady context_at context_steady n [])

pub point_steady : (contexts : ℕ) (last : Option (ℕ × ℕ)) → IsSteady (point_at contexts last)
unfolding point_at
point_steady contexts last = ruled_steady (is_next_point contexts last) pair_at pair_steady

pub stack_steady : IsSteady stack_at
unfolding stack_at
stack_steady = counted_steady (λ _. cell_at) (λ _. cell_steady)

-- the graphics state after its first registers
abbrev pub after_two_zones : Input → Answer (ZoneCell × Cell)
after_two_zones = and_then zone_at (λ _. cell_at)

abbrev pub after_zone : Input → Answer (ZoneCell × (ZoneCell × Cell))
after_zone = and_then zone_at (λ _. after_two_zones)

abbrev pub after_three_cells : Input → Answer (ZoneCell × (ZoneCell × (ZoneCell × Cell)))
after_three_cells = and_then zone_at (λ _. after_zone)

abbrev pub after_two_cells : Input → Answer (Cell × (ZoneCell × (ZoneCell × (ZoneCell × Cell))))
after_two_cells = and_then cell_at (λ _. after_three_cells)

abbrev pub after_cell : Input → Answer (Cell × (Cell × (ZoneCell × (ZoneCell × (ZoneCell × Cell)))))
after_cell = and_then cell_at (λ _. after_two_cells)

pub graphics_steady : IsSteady graphics_at
unfolding graphics_at
graphics_steady =
    made_of_steady graphics_from registers_at
    (and_then_steady cell_at _ cell_steady (λ _. and_then_steady cell_at _ cell_steady (λ _. and_then_steady cell_at _ cell_steady
    (λ _. and_then_steady zone_at _ zone_steady (λ _. and_then_steady zone_at _ zone_steady (λ _. and_then_steady zone_at _ zone_steady (λ _. cell_steady)))))))

pub function_steady : (before : List (ℕ × ℕ)) → IsSteady (function_at before)
unfolding function_at
function_steady before = ruled_steady (is_above (last_of before)) pair_at pair_steady

pub functions_steady : IsSteady functions_at
unfolding functions_at
functions_steady = counted_steady function_at function_steady

pub stored_steady : (before : List (ℕ × ℤ)) → IsSteady (stored_at before)
unfolding stored_at
stored_steady before = ruled_steady (is_above (last_of before)) (made_of with_sign pair_at) (made_of_steady with_sign pair_at pair_steady)

pub storage_steady : (form : Form) → IsSteady (storage_at form)
unfolding storage_at
storage_steady One = done_steady []
storage_steady Two = done_steady []
storage_steady Three = counted_steady stored_at stored_steady
storage_steady Four = counted_steady stored_at stored_steady

-- the parts of a state after its first ones
abbrev pub after_graphics : Form → Input → Answer (List (ℕ × ℕ) × List (ℕ × ℤ))
after_graphics form = and_then functions_at (λ _. storage_at form)

abbrev pub after_stack : Form → Input → Answer (Cells × (List (ℕ × ℕ) × List (ℕ × ℤ)))
after_stack form = and_then graphics_at (λ _. after_graphics form)

pub state_steady : (form : Form) → IsSteady (state_at form)
unfolding state_at
state_steady form =
    made_of_steady state_from (parts_at form)
    (and_then_steady stack_at _ stack_steady (λ _. and_then_steady graphics_at _ graphics_steady (λ _. and_then_steady functions_at _ functions_steady (λ _. storage_steady form))))

pub entry_steady : (form : Form) (contexts : ℕ) (before : List Entry) → IsSteady (entry_at form contexts before)
unfolding entry_at
entry_steady form contexts before =
    and_then_steady (point_at contexts (last_point before)) (λ _. state_at form) (point_steady contexts (last_point before)) (λ _. state_steady form)

pub magic_steady : IsSteady magic_at
unfolding magic_at
magic_steady = ruled_steady is_magic long_at long_steady

pub form_steady : IsSteady form_at
unfolding form_at
form_steady = step_steady word_at (λ p n j. given p (form_of n) j) word_steady (λ p n. given_steady p (form_of n))

-- a state after its place, as one after those before it
pub entry_same : (form : Form) (n m : ℕ) (last : Option (ℕ × ℕ)) (before : List Entry) → n ≡ m → last ≡ last_point before → entry_after form n last ≡ entry_at form m before
unfolding entry_at
entry_same form n m last before e f = ap (λ (k : ℕ). entry_after form k last) e ∙ ap (entry_after form m) f

-- the forms that list storage cells
pub storage_listed : (form : Form) → (form ≡ Three) ⊎ (form ≡ Four) → storage_at form ≡ counted_at stored_at
unfolding storage_at
storage_listed form (inl three) = rw three refl
storage_listed form (inr four) = rw four refl

-- a section after its name
abbrev pub after_name : Form → Input → Answer (List Context × List Entry)
after_name form = and_then (contexts_at form) (λ contexts. states_at form (length contexts + 1))
