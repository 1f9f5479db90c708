-- What the exit status of a scan tells of its font files.
use Rattle.std.proofs.Common.{◌≡◌, ◌≢◌, ◌≤◌, ◌⊎◌, ℕ, Bool, true, false, cond, List, [], ◌∷◌, map, max, Option, None, Some, ap, arith, inl, inr, refl, subst, sym, ◌∙◌}
use Rattle.std.specs.Prelude.{All, Contains, option_map}
use Rattle.std.specs.List.{list_any}
use Rattle.std.proofs.lemmas.Bool.{cases_eq, cases_lt}
use Rattle.std.proofs.lemmas.List.Elements.{All-cons, All-head, All-nil, All-tail, All-weaker, Contains-append_left, Contains-append_right, Contains-push}
use Rattle.hintcheck_words.specs.declared.words.FailOn.{FailOn}
use Rattle.hintcheck_words.specs.declared.words.FailOn.TheVariants.{Possible, Refused as Each}
use Rattle.hintcheck_words.specs.declared.words.FontWords.{FontWords}
use Rattle.hintcheck_words.specs.declared.words.FontWords.TheVariants.{Fonts, Lines, Nuls}
use Rattle.hintcheck_words.specs.declared.words.Profile.{Profile}
use Rattle.hintcheck_words.specs.declared.words.Profile.TheVariants.{Both, Strict, Symbolic}
use Rattle.hintcheck_words.specs.declared.words.ScanOptions.{ScanOptions}
use Rattle.hintcheck_words.specs.Requests.{Texts, scan}
use Rattle.hintcheck.specs.Representation.Answers.{IsAnswered}
use Rattle.hintcheck.specs.CommandFaults.{IsFaultOfFontFile}
use Rattle.hintcheck.specs.Commands.{collection_status, font_status, status_of}
use Rattle.hintcheck.specs.KnownRefusals.{fails_for, is_listed, is_unknown, none_listed}
use Rattle.hintcheck.specs.MeansSafe.{HoldFailing, HoldNoneCounted, HoldPassing, HoldRefusedBy, HoldSafeBy, HoldSomeCounted, IsRefusedScan, IsSafeScan, IsVerdictBy}
use Rattle.hintcheck.specs.FontLabels.{Label}
use Rattle.hintcheck.specs.Representation.Known.{are_alone, is_known_by, is_listed_by}
use Rattle.hintcheck.specs.ScannedNames.{HoldsOfLabels, HoldsOfNames, HoldsOfScanned, shown_names}
use Rattle.hintcheck.specs.declared.commands.known_refusals.Known.{Known}
use Rattle.hintcheck.specs.declared.commands.known_refusals.Known.TheVariants as held
use Rattle.hintcheck.specs.Scans.{Answer, IsAnswer, PrintsScan, PrintsScanning, Scanned, greatest_status, judged, status_of_answer, unread}
use Rattle.hintcheck_programs.specs.Verdicts.{Judgement}
use Rattle.hintcheck.specs.declared.commands.faults.CommandFault.{CommandFault}
use Rattle.hintcheck.specs.declared.commands.faults.CommandFault.TheVariants as fault
use Rattle.hintcheck_fonts.specs.FontAnswers.{HoldRefusedFont, HoldSafeFont, HoldSymbolicRefusedFont, HoldSymbolicSafeFont, IsSymbolicVerdictOn, IsVerdictOn}
use Rattle.hintcheck_fonts.specs.declared.request.Request.{Request}
use Rattle.hintcheck_fonts.specs.declared.request.Request.TheVariants as request
use Rattle.hintcheck_report.specs.declared.refused.Refused.{Refused}
use Rattle.tt_collection.specs.declared.fault.CollectionFault.{CollectionFault}
use Rattle.tt_collection.specs.declared.fault.CollectionFault.TheVariants as collection
use Rattle.tt_font.specs.declared.fault.FontFault.{FontFault}
use Rattle.tt_font.specs.declared.fault.FontFault.TheVariants as font

-- what the verdict on a font tells
strict_safe : (bytes : List ℕ) (v : Judgement) → IsVerdictOn bytes v → v.refused ≡ [] → HoldSafeFont bytes
strict_safe bytes v is none = record { font = is.font; reads = is.reads; safe = is.safe none }

symbolic_safe : (bytes : List ℕ) (v : Judgement) → IsSymbolicVerdictOn bytes v → v.refused ≡ [] → HoldSymbolicSafeFont bytes
symbolic_safe bytes v is none = record { font = is.font; reads = is.reads; judgement = v; given = is.given; none = none }

pub safe_by : (profile : Profile) (by : Request) (bytes : List ℕ) (v : Judgement) → IsVerdictBy profile by bytes v → v.refused ≡ [] → HoldSafeBy profile bytes
safe_by (Strict most) request.Strict bytes v is none = strict_safe bytes v is.given none
safe_by (Strict most) (request.Symbolic steps) bytes v is none = absurd is.asked
safe_by (Symbolic most) request.Strict bytes v is none = absurd is.asked
safe_by (Symbolic most) (request.Symbolic steps) bytes v is none = symbolic_safe bytes v is.given none
safe_by (Both most) request.Strict bytes v is none = inl (strict_safe bytes v is.given none)
safe_by (Both most) (request.Symbolic steps) bytes v is none = inr (symbolic_safe bytes v is.given none)

strict_refused : (bytes : List ℕ) (v : Judgement) → IsVerdictOn bytes v → v.refused ≢ [] → HoldRefusedFont bytes
strict_refused bytes v is some = record { font = is.font; reads = is.reads; judgement = v; given = is.given; some = some }

symbolic_refused : (bytes : List ℕ) (v : Judgement) → IsSymbolicVerdictOn bytes v → v.refused ≢ [] → HoldSymbolicRefusedFont bytes
symbolic_refused bytes v is some = record { font = is.font; reads = is.reads; judgement = v; given = is.given; some = some }

pub refused_by : (profile : Profile) (by : Request) (bytes : List ℕ) (v : Judgement) → IsVerdictBy profile by bytes v → v.refused ≢ [] → HoldRefusedBy profile bytes
refused_by (Strict most) request.Strict bytes v is some = strict_refused bytes v is.given some
refused_by (Strict most) (request.Symbolic steps) bytes v is some = absurd is.asked
refused_by (Symbolic most) request.Strict bytes v is some = absurd is.asked
refused_by (Symbolic most) (request.Symbolic steps) bytes v is some = symbolic_refused bytes v is.given some
refused_by (Both most) request.Strict bytes v is some = absurd (some is.told)
refused_by (Both most) (request.Symbolic steps) bytes v is some = symbolic_refused bytes v is.given some

-- exit statuses

flag_zero : (b : Bool) → ◌≡◌ {A = ℕ} (cond b 1 0) 0 → b ≡ false
flag_zero true e = absurd (omega arith)
flag_zero false e = refl

flag_one : (b : Bool) → ◌≡◌ {A = ℕ} (cond b 1 0) 1 → b ≡ true
flag_one true e = refl
flag_one false e = absurd (omega arith)

flag_few : (b : Bool) → cond b 1 0 ≤ 1
flag_few true = omega arith
flag_few false = omega arith

font_range : (f : FontFault) → (2 ≤ font_status f) × (font_status f ≤ 3)
font_range (font.OutOfMemory error) = ((omega arith), (omega arith))
font_range _ = ((omega arith), (omega arith))

collection_range : (f : CollectionFault) → (2 ≤ collection_status f) × (collection_status f ≤ 3)
collection_range (collection.OutOfMemory error) = ((omega arith), (omega arith))
collection_range _ = ((omega arith), (omega arith))

fault_range : (f : CommandFault) → (2 ≤ status_of f) × (status_of f ≤ 3)
fault_range fault.OutOfMemory = ((omega arith), (omega arith))
fault_range fault.Budget = ((omega arith), (omega arith))
fault_range (fault.Font f container) = font_range f
fault_range (fault.Collection f) = collection_range f
fault_range _ = ((omega arith), (omega arith))

answer_few : (d : Refused → Bool) (answer : Answer) → status_of_answer d answer ≤ 3
answer_few d (judged by j) = omega (arith, flag_few (list_any d j.refused))
answer_few d (unread f) = (fault_range f).1

greatest_few : (d : Label → List ℕ → Refused → Bool) (scanned : List Scanned) → greatest_status d scanned ≤ 3
greatest_few d [] = omega arith
greatest_few d (s ∷ others) = omega (arith, answer_few (d s.label s.bytes) s.answer, greatest_few d others)

-- what they tell of the verdicts

abbrev Answered : Profile → Scanned → Type 0
Answered profile s = IsAnswer profile s.bytes s.answer

abbrev HoldsNone : Profile → (Label → List ℕ → Refused → Bool) → Label → Type 0
HoldsNone profile d label = (bytes : List ℕ) × HoldNoneCounted profile (d label bytes) bytes

one_none : (profile : Profile) (d : Refused → Bool) (bytes : List ℕ) (answer : Answer) → status_of_answer d answer ≡ 0 → IsAnswer profile bytes answer → HoldNoneCounted profile d bytes
one_none profile d bytes (judged by j) zero given = record { by = by; judgement = j; given = given; none = flag_zero (list_any d j.refused) zero }
one_none profile d bytes (unread f) zero is = absurd (omega (arith, fault_range f))

all_none : (profile : Profile) (d : Label → List ℕ → Refused → Bool) (scanned : List Scanned) → greatest_status d scanned ≡ 0 → All (Answered profile) scanned → All (HoldsNone profile d) (map (λ s. s.label) scanned)
all_none profile d [] zero answers = All-nil (HoldsNone profile d)
all_none profile d (s ∷ others) zero answers =
    All-cons (HoldsNone profile d) s.label (map (λ s. s.label) others) (s.bytes, one_none profile (d s.label s.bytes) s.bytes s.answer (omega arith) (All-head (Answered profile) s others answers))
    (all_none profile d others (omega arith) (All-tail (Answered profile) s others answers))

one_some : (profile : Profile) (d : Refused → Bool) (bytes : List ℕ) (answer : Answer) → status_of_answer d answer ≡ 1 → IsAnswer profile bytes answer → HoldSomeCounted profile d bytes
one_some profile d bytes (judged by j) one given = record { by = by; judgement = j; given = given; some = flag_one (list_any d j.refused) one }
one_some profile d bytes (unread f) one is = absurd (omega (arith, fault_range f))

-- a program of one of the fonts counts
abbrev SomeAmong : Profile → (Label → List ℕ → Refused → Bool) → List Label → Type 0
SomeAmong profile d labels = (label : Label) × (bytes : List ℕ) × Contains labels label × HoldSomeCounted profile (d label bytes) bytes

some_among : (profile : Profile) (d : Label → List ℕ → Refused → Bool) (scanned : List Scanned) → greatest_status d scanned ≡ 1 → All (Answered profile) scanned → SomeAmong profile d (map (λ s. s.label) scanned)
some_among profile d [] one answers = absurd (omega arith)
some_among profile d (s ∷ others) one answers =
    let labels : List Label = map (λ s. s.label) others in
    elim (cases_eq (status_of_answer (d s.label s.bytes) s.answer) 1) [
      | inl first ↦
          let some = one_some profile (d s.label s.bytes) s.bytes s.answer first (All-head (Answered profile) s others answers) in
          (s.label, s.bytes, Contains-append_left (s.label ∷ []) labels s.label (Contains-push [] s.label), some)
      | inr not_first ↦
          let rest = some_among profile d others (omega arith) (All-tail (Answered profile) s others answers) in
          (rest.0, rest.1, Contains-append_right (s.label ∷ []) labels rest.0 rest.2, rest.3)
    ]

-- a font file has a fault of this status
abbrev HasFault : ℕ → Type 0
HasFault status = (reported : CommandFault) × IsFaultOfFontFile reported × (status_of reported ≡ status)

one_fault : (profile : Profile) (d : Refused → Bool) (bytes : List ℕ) (answer : Answer) → 2 ≤ status_of_answer d answer → IsAnswer profile bytes answer → HasFault (status_of_answer d answer)
one_fault profile d bytes (judged by j) two is = absurd (omega (arith, flag_few (list_any d j.refused)))
one_fault profile d bytes (unread f) two is = (f, is, refl)

some_fault : (profile : Profile) (d : Label → List ℕ → Refused → Bool) (scanned : List Scanned) → 2 ≤ greatest_status d scanned → All (Answered profile) scanned → HasFault (greatest_status d scanned)
some_fault profile d [] two answers = absurd (omega arith)
some_fault profile d (s ∷ others) two answers =
    let first = status_of_answer (d s.label s.bytes) s.answer in
    let rest = greatest_status d others in
    elim (cases_lt first rest) [
      | inl less ↦ let is : max first rest ≡ rest = omega arith in rw is (some_fault profile d others (omega arith) (All-tail (Answered profile) s others answers))
      | inr most ↦ let is : max first rest ≡ first = omega arith in rw is (one_fault profile (d s.label s.bytes) s.bytes s.answer (omega arith) (All-head (Answered profile) s others answers))
    ]

-- without known refusals

none_refused : (rs : List Refused) → list_any (λ r. true) rs ≡ false → rs ≡ []
none_refused [] e = refl
none_refused (r ∷ rs) e = absurd cc

some_refused : (rs : List Refused) → list_any (λ r. true) rs ≡ true → rs ≢ []
some_refused [] e = absurd cc
some_refused (r ∷ rs) e = λ none. cc

passing : (fail_on : Option FailOn) (profile : Profile) (bytes : List ℕ) → HoldNoneCounted profile (fails_for fail_on) bytes → HoldPassing fail_on profile bytes
passing (Some Possible) profile bytes h = h
passing (Some Each) profile bytes h = safe_by profile h.by bytes h.judgement h.given (none_refused h.judgement.refused h.none)
passing None profile bytes h = safe_by profile h.by bytes h.judgement h.given (none_refused h.judgement.refused h.none)

failing : (fail_on : Option FailOn) (profile : Profile) (bytes : List ℕ) → HoldSomeCounted profile (fails_for fail_on) bytes → HoldFailing fail_on profile bytes
failing (Some Possible) profile bytes h = h
failing (Some Each) profile bytes h = refused_by profile h.by bytes h.judgement h.given (some_refused h.judgement.refused h.some)
failing None profile bytes h = refused_by profile h.by bytes h.judgement h.given (some_refused h.judgement.refused h.some)

-- what a scan tells

safe_scan : (options : ScanOptions) (labels : List Label) (expected : Option (List ℕ)) (status : ℕ) (old new : Option (List ℕ)) → PrintsScanning options labels expected status old new → status ≡ 0 → IsSafeScan options labels expected
safe_scan options labels None status old new p zero =
    All-weaker (HoldsNone options.profile (is_unknown options.fail_on none_listed)) (λ l. (bytes : List ℕ) × HoldPassing options.fail_on options.profile bytes) (λ l h. (h.0, passing options.fail_on options.profile h.0 h.1)) labels
    (subst (All (HoldsNone options.profile (is_unknown options.fail_on none_listed))) p.labels_are (all_none options.profile (is_unknown options.fail_on none_listed) p.scanned (sym p.greatest ∙ zero) p.answers))
safe_scan options labels (Some file) status old new (is, p) zero =
    (is, subst (All (HoldsNone options.profile (is_unknown options.fail_on (is_listed is)))) p.labels_are (all_none options.profile (is_unknown options.fail_on (is_listed is)) p.scanned (sym p.greatest ∙ zero) p.answers))

refused_scan : (options : ScanOptions) (labels : List Label) (expected : Option (List ℕ)) (status : ℕ) (old new : Option (List ℕ)) → PrintsScanning options labels expected status old new → status ≡ 1 → IsRefusedScan options labels expected
refused_scan options labels None status old new p one =
    let some = some_among options.profile (is_unknown options.fail_on none_listed) p.scanned (sym p.greatest ∙ one) p.answers in
    (some.1, failing options.fail_on options.profile some.1 some.3)
refused_scan options labels (Some file) status old new (is, p) one =
    let some = some_among options.profile (is_unknown options.fail_on (is_listed is)) p.scanned (sym p.greatest ∙ one) p.answers in
    (is, some.0, some.1, subst (λ ls. Contains ls some.0) p.labels_are some.2, some.3)

few_scan : (options : ScanOptions) (labels : List Label) (expected : Option (List ℕ)) (status : ℕ) (old new : Option (List ℕ)) → PrintsScanning options labels expected status old new → status ≤ 3
few_scan options labels None status old new p = rw p.greatest (greatest_few _ p.scanned)
few_scan options labels (Some file) status old new (is, p) = rw p.greatest (greatest_few _ p.scanned)

fault_scan : (options : ScanOptions) (labels : List Label) (expected : Option (List ℕ)) (status : ℕ) (old new : Option (List ℕ)) → PrintsScanning options labels expected status old new → 2 ≤ status → HasFault status
fault_scan options labels None status old new p two = rw p.greatest (some_fault options.profile (is_unknown options.fail_on none_listed) p.scanned (subst (λ n. 2 ≤ n) p.greatest two) p.answers)
fault_scan options labels (Some file) status old new (is, p) two = rw p.greatest (some_fault options.profile (is_unknown options.fail_on (is_listed is)) p.scanned (subst (λ n. 2 ≤ n) p.greatest two) p.answers)

-- what the words of the fonts name: themselves, or what lists give
abbrev pub AreNamed : FontWords → List (List ℕ) → List (List ℕ) → Type 0
AreNamed given words names = (given ≡ Fonts × names ≡ words) ⊎ (given ≢ Fonts)

of_names : (given : FontWords) (words names : List (List ℕ)) (P : List (List ℕ) → Type 0) → AreNamed given words names → P names → HoldsOfNames given words P
of_names Fonts words names P (inl is) holds = subst P is.1 holds
of_names Fonts words names P (inr other) holds = absurd (other refl)
of_names Lines words names P named holds = (names, holds)
of_names Nuls words names P named holds = (names, holds)

of_scanned : (given : FontWords) (words names : List (List ℕ)) (name : Option (List ℕ)) (P : List Label → Type 0) → AreNamed given words names → HoldsOfLabels (shown_names name names) P → HoldsOfScanned given words name P
of_scanned given words names name P named holds = of_names given words names (λ ns. HoldsOfLabels (shown_names name ns) P) named holds

pub scan_answered : (words names : List (List ℕ)) (options : ScanOptions) (texts : Texts) (status : ℕ) (old new : Option (List ℕ)) → AreNamed options.words words names
    → HoldsOfLabels (shown_names texts.name names) (λ labels. PrintsScanning options labels texts.expected status old new) → IsAnswered (scan words options texts) status old new
scan_answered words names options texts status old new named (labels, are, p) = record {
  few = few_scan options labels texts.expected status old new p;
  safe = λ zero. of_scanned options.words words names texts.name (λ ls. IsSafeScan options ls texts.expected) named (labels, are, safe_scan options labels texts.expected status old new p zero);
  refused = λ one. of_scanned options.words words names texts.name (λ ls. IsRefusedScan options ls texts.expected) named (labels, are, refused_scan options labels texts.expected status old new p one);
  told = λ two. fault_scan options labels texts.expected status old new p two;
  none = λ few. tt;
  printed = of_scanned options.words words names texts.name (λ ls. PrintsScanning options ls texts.expected status old new) named (labels, are, p);
}

-- what a scan without a file of known refusals, or with one, printed
pub scanning : (options : ScanOptions) (known : Known) (labels : List Label) (expected : Option (List ℕ)) (status : ℕ) (old new : Option (List ℕ)) → (expected ≡ None → known ≡ held.Nothing) → (known ≡ held.Nothing → expected ≡ None)
    → PrintsScan options (are_alone options known) (is_listed_by known) labels status old new → PrintsScanning options labels expected status old new
scanning options known labels None status old new none given p = subst (λ k. PrintsScan options (are_alone options k) (is_listed_by k) labels status old new) (none refl) p
scanning options held.Nothing labels (Some file) status old new none given p = let no = given refl in cc
scanning options (held.Lines lines) labels (Some file) status old new none given p = (is_known_by (held.Lines lines), p)

-- no name is there where it has no text
pub none_named : {X Y : Type 0} (f : X → List ℕ) (g : Y → List ℕ) (o : Option X) (n : Option Y) → option_map f o ≡ option_map g n → option_map g n ≡ None → o ≡ None
none_named f g None n same none = refl
none_named f g (Some x) n same none = absurd cc

-- and no text where there is no name
pub none_spelled : {X Y : Type 0} (f : X → List ℕ) (g : Y → List ℕ) (o : Option X) (n : Option Y) → option_map f o ≡ option_map g n → o ≡ None → option_map g n ≡ None
none_spelled f g o n same none = sym same ∙ ap (option_map f) none
