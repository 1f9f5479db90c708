-- Words in which clap finds no fault name a subcommand that asks for something: not `help`.
use Rattle.std.proofs.Common.{◌≡◌, ◌∙◌, ℕ, Bool, true, false, List, [], ◌∷◌, Option, Some, None, sym, ap, subst, codes, inl, inr, refl}
use Rattle.std.specs.Prelude.{find, fold, option_map, is_some, ◌&&◌, ◌||◌, if◌then◌else◌}
use Rattle.std.specs.List.{list_all, list_any}
use Rattle.std.specs.Str.{bytes_eq}
use Rattle.std.proofs.lemmas.Bool.{cases_Bool}
use Rattle.std.proofs.lemmas.Slice.Eq.{bytes_eq-Decides}
use Rattle.clap.specs.Faults.{built_fault, fault_of, is_simple_and_free, other_fault, step_fault, turn_fault, walk_fault, word_fault}
use Rattle.clap.specs.Kinds.{Kinds, or_else}
use Rattle.clap.specs.Lexer.{long_of, short_of}
use Rattle.clap.specs.Simple.{App, Shape, argument_words, built, entered, label_of, names_of, rows_at}
use Rattle.clap.specs.Walk.{Held, Names, Outcome, Row, Rule, Step, Text, Waiting, Walk, after_flag, after_step, answers_to, arg_by_index, done, idle, is_empty, long_or_other, next, nothing_held, option, plain, plain_word, positional, refused, short_or_plain, subcommand, subcommand_met, subcommand_or_other, to_positional, trailing, value, waits, walk, walk_from, walked, walked_from, word_met}
use Rattle.clap.proofs.OnLiterals.{clap_on_literals}
use Rattle.clap.proofs.SimpleLemmas.{is_nil}
use Rattle.clap.proofs.WalkLemmas.{both}
use Rattle.hintcheck_words.specs.CommandLine.{hintcheck}
use Rattle.hintcheck_words.specs.Requests.{met, request_of, requests}

both_empty : (x y : Kinds) → or_else x y ≡ [] → (x ≡ []) × (y ≡ [])
both_empty [] y e = (refl, e)
both_empty (k ∷ x) y e = absurd cc

-- ---- a word that names no subcommand

abbrev IsNoName : Step → Type 0
IsNoName (subcommand name) = ⊥
IsNoName _ = Unit {0}

plain_unnamed : (c : List Rule) (waiting : Waiting) (word : Text) (h : Held) → IsNoName (plain_word c waiting word h).1
plain_unnamed c idle word h = tt
plain_unnamed c positional word h = tt
plain_unnamed c (option id) word h = tt

flag_unnamed : (c : List Rule) (waiting : Waiting) (word : Text) (h : Held) (outcome : Outcome) → IsNoName (after_flag c waiting word h outcome).1
flag_unnamed c waiting word h done = tt
flag_unnamed c waiting word h (waits id) = tt
flag_unnamed c waiting word h plain = plain_unnamed c waiting word h
flag_unnamed c waiting word h refused = plain_unnamed c waiting word h

short_unnamed : (c : List Rule) (waiting : Waiting) (word : Text) (flags : Option Text) (h : Held) → IsNoName (short_or_plain c waiting word flags h).1
short_unnamed c waiting word None h = plain_unnamed c waiting word h
short_unnamed c waiting word (Some flags) h = flag_unnamed c waiting word _ _

long_unnamed : (c : List Rule) (waiting : Waiting) (word : Text) (long : Option (Text × Option Text)) (h : Held) → IsNoName (long_or_other c waiting word long h).1
long_unnamed c waiting word (Some p) h = flag_unnamed c waiting word _ _
long_unnamed c waiting word None h = short_unnamed c waiting word (short_of word) h

other_unnamed : (c : List Rule) (waiting : Waiting) (position : ℕ) (word : Text) (h : Held) → IsNoName (subcommand_or_other c None waiting position word h).1
other_unnamed c waiting position word h = elim (cases_Bool (bytes_eq word (45 ∷ 45 ∷ []))) [
  | inl dashes ↦ rw dashes tt
  | inr other ↦ rw other (long_unnamed c waiting word (long_of word) h)
]

-- ---- the walk, which stops at a subcommand

abbrev IsNotHelp : Option (Text × List Text) → Type 0
IsNotHelp None = Unit {0}
IsNotHelp (Some p) = bytes_eq p.0 (codes "help") ≡ false

stop_kept : (c : List Rule) (word : Text) (w : Walk) (h : Held) (step : Step) → IsNotHelp w.stopped → IsNoName step → IsNotHelp (after_step c word w h step).stopped
stop_kept c word w h (next waiting) stopped unnamed = stopped
stop_kept c word w h (trailing position) stopped unnamed = stopped
stop_kept c word w h (subcommand name) stopped unnamed = absurd unnamed
stop_kept c word w h value stopped unnamed = go (arg_by_index c w.position)
  where
    go : (found : Option Rule) → IsNotHelp (to_positional c found word w h).stopped
    go None = stopped
    go (Some a) = tt

met_stops : (s : Shape) (w : Walk) (word : Text) (met : Option Text) → s.disable_help_subcommand ≡ false → IsNotHelp w.stopped → other_fault s met word w.held ≡ []
    → IsNotHelp (after_step s.rules word w (subcommand_or_other s.rules met w.waiting w.position word w.held).0 (subcommand_or_other s.rules met w.waiting w.position word w.held).1).stopped
met_stops s w word None helps stopped e = stop_kept s.rules word w _ _ stopped (other_unnamed s.rules w.waiting w.position word w.held)
met_stops s w word (Some name) helps stopped e = elim (cases_Bool (bytes_eq name (codes "help"))) [
  | inl help ↦ let bad = rw (help, helps) at e in absurd cc
  | inr other ↦ other
]

word_stops : (s : Shape) (names : Names) (w : Walk) (word : Text) (behind : Bool) → s.disable_help_subcommand ≡ false → IsNotHelp w.stopped → word_fault s names behind w.waiting word w.held ≡ []
    → IsNotHelp (after_step s.rules word w (word_met s.rules names behind w.waiting w.position word w.held).0 (word_met s.rules names behind w.waiting w.position word w.held).1).stopped
word_stops s names w word true helps stopped e = stop_kept s.rules word w w.held value stopped tt
word_stops s names w word false helps stopped e = met_stops s w word (subcommand_met names w.waiting word) helps stopped e

turn_stops : (s : Shape) (names : Names) (w : Walk) (word : Text) → s.disable_help_subcommand ≡ false → IsNotHelp w.stopped → turn_fault s names w word ≡ [] → IsNotHelp (walked s.rules names w word).stopped
unfolding walked
turn_stops s names w word helps stopped e = go w.stopped stopped e
  where
    go : (at : Option (Text × List Text)) → IsNotHelp at
        → (if is_some at then [] else or_else (word_fault s names w.is_trailing w.waiting word w.held) (step_fault s w.position (word_met s.rules names w.is_trailing w.waiting w.position word w.held).0 (word_met s.rules names w.is_trailing w.waiting w.position word w.held).1)) ≡ []
        → IsNotHelp (walked_from s.rules names at w word).stopped
    go None named f = word_stops s names w word w.is_trailing helps stopped (both_empty _ _ f).0
    go (Some p) named f = named

walk_stops : (s : Shape) (names : Names) (words : List Text) (w : Walk) → s.disable_help_subcommand ≡ false → IsNotHelp w.stopped → walk_fault s names w words ≡ [] → IsNotHelp (fold (walked s.rules names) w words).stopped
unfolding walk_fault
walk_stops s names [] w helps stopped e = stopped
walk_stops s names (word ∷ words) w helps stopped e =
    let p = both_empty _ _ e in
    walk_stops s names words (walked s.rules names w word) helps (turn_stops s names w word helps stopped p.0) p.1

-- ---- the subcommand

-- `help`, or one that asks for something
abbrev is_part : List Row → Shape → Bool
is_part rows s = is_empty s.aliases && (bytes_eq s.name (codes "help") || is_some (request_of (s.name, rows)))

found_passes : {X : Type 0} (q p : X → Bool) (xs : List X) (x : X) → list_all q xs ≡ true → find p xs ≡ Some x → (q x ≡ true) × (p x ≡ true)
found_passes q p [] x all e = absurd cc
found_passes q p (y ∷ ys) x all e = elim (cases_Bool (p y)) [
  | inl here ↦
      let found : Some y ≡ Some x = rw here at e in
      let same : y ≡ x = cc in
      (subst (λ z. q z ≡ true) same (both _ _ all).0, subst (λ z. p z ≡ true) same here)
  | inr other ↦ found_passes q p ys x (both _ _ all).1 (rw other at e)
]

left_true : (b : Bool) → (b || false) ≡ true → b ≡ true
left_true true e = refl
left_true false e = e

right_true : (b c : Bool) → b ≡ false → (b || c) ≡ true → c ≡ true
right_true true c f e = absurd cc
right_true false c f e = e

-- one that was met by another name than `help`
part_asks : (t : Shape) (word : Text) (rows : List Row) → is_part rows t ≡ true → answers_to word (label_of t) ≡ true → bytes_eq word (codes "help") ≡ false → is_some (request_of (t.name, rows)) ≡ true
part_asks t word rows part answers not_help =
    let parts = both _ _ part in
    let here : (bytes_eq t.name word || false) ≡ true = subst (λ (xs : List Text). (bytes_eq t.name word || list_any (λ alias. bytes_eq alias word) xs) ≡ true) (is_nil _ parts.0) answers in
    let same : t.name ≡ word = (bytes_eq-Decides t.name word).0 (left_true _ here) in
    right_true _ _ (subst (λ (w : Text). bytes_eq w (codes "help") ≡ false) (sym same) not_help) parts.1

entered_asks : (a : App) (stop : Option (Text × List Text)) (name : Text) (rows : List Row) → ((rows : List Row) → list_all (is_part rows) a.subs ≡ true) → IsNotHelp stop → entered a stop ≡ Some (name, rows)
    → is_some (request_of (name, rows)) ≡ true
entered_asks a None name rows parts other e = absurd cc
entered_asks a (Some p) name rows parts other e = go (find (λ s. answers_to p.0 (label_of s)) a.subs) refl e
  where
    go : (found : Option Shape) → find (λ s. answers_to p.0 (label_of s)) a.subs ≡ found → option_map (λ t. rows_at t p.1) found ≡ Some (name, rows) → is_some (request_of (name, rows)) ≡ true
    go None is m = absurd cc
    go (Some t) is m =
        let passes = found_passes (is_part rows) (λ s. answers_to p.0 (label_of s)) a.subs t (parts rows) is in
        let pair : ◌≡◌ {A = Text × List Row} (rows_at t p.1) (name, rows) = cc in
        subst (λ (n : Text). is_some (request_of (n, rows)) ≡ true) (ap (λ q. q.0) pair) (part_asks t p.0 rows passes.0 passes.1 other)

-- what words without a fault name, by the command as clap builds it
built_asks : (a : App) (words : List Text) (name : Text) (rows : List Row) → ((rows : List Row) → list_all (is_part rows) a.subs ≡ true) → a.top.disable_help_subcommand ≡ false → built_fault a nothing_held words ≡ []
    → entered a (walk a.top.rules (names_of a) nothing_held words).stopped ≡ Some (name, rows) → is_some (request_of (name, rows)) ≡ true
built_asks a words name rows parts helps e found =
    entered_asks a _ name rows parts (walk_stops a.top (names_of a) words (walk_from nothing_held) helps tt (both_empty _ _ e).0) found

-- ---- the command line

parts_ask : (rows : List Row) → list_all (is_part rows) (built hintcheck).subs ≡ true
unfolding hintcheck request_of requests clap_on_literals
parts_ask rows = refl

has_help : (built hintcheck).top.disable_help_subcommand ≡ false
unfolding hintcheck clap_on_literals
has_help = refl

simple_and_free : is_simple_and_free hintcheck ≡ true
unfolding hintcheck clap_on_literals
simple_and_free = refl

-- what words without a fault name asks for something
pub asks : (words : List Text) (name : Text) (rows : List Row) → fault_of hintcheck words ≡ [] → met words ≡ Some (name, rows) → is_some (request_of (name, rows)) ≡ true
unfolding met
asks words name rows e found = built_asks (built hintcheck) (argument_words hintcheck words) name rows parts_ask has_help e found

pub fault_is : (a : App) (words : List Text) → a ≡ hintcheck → (is_simple_and_free a ≡ true → fault_of a words ≡ []) → fault_of hintcheck words ≡ []
fault_is a words same none = sym (ap (λ (b : App). fault_of b words) same) ∙ none (ap is_simple_and_free same ∙ simple_and_free)
