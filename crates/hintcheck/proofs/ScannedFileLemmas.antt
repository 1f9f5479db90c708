-- Font files that are scanned as planned, one after the other: their labels.
use Rattle.std.proofs.Common.{◌≡◌, ◌≢◌, ◌≤◌, ◌<◌, ◌+◌, ◌∙◌, ℕ, List, [], ◌∷◌, ◌++◌, Option, ap, arith, get_or, length, map, max, refl, subst, sym, take}
use Rattle.std.specs.Prelude.{All}
use Rattle.std.proofs.lemmas.List.{length-append, map-append, take_all, take_more}
use Rattle.std.proofs.lemmas.List.Elements.{All-append, All-cons, All-nil}
use Rattle.hintcheck.specs.FontLabels.{Label, more, none}
use Rattle.hintcheck.specs.Representation.Known.{are_alone, is_listed_by}
use Rattle.hintcheck.specs.Representation.ScannedFiles.{ScansFaces, ScansFile, ScansFiles, ScansLabels}
use Rattle.hintcheck.specs.declared.commands.scan_task.Plan.{Plan}
use Rattle.hintcheck.proofs.ScannedLines.{scans_both, scans_none}

-- no file, and no face
pub no_file : (plan : Plan) (old : Option (List ℕ)) → ScansFiles plan [] 0 old old
no_file plan old = ([], none, scans_none plan.options (are_alone plan.options plan.known.now) (is_listed_by plan.known.now) old)

pub no_face : (plan : Plan) (file : List ℕ) (old : Option (List ℕ)) → ScansFaces plan file 0 0 old old
no_face plan file old = record { labels = []; count_is = refl; faces = All-nil (λ l. l.file ≡ file); scanned = scans_none plan.options (are_alone plan.options plan.known.now) (is_listed_by plan.known.now) old }

-- one label of a file
pub one_label : (plan : Plan) (label : Label) (file : List ℕ) (status : ℕ) (old new : Option (List ℕ)) → label.file ≡ file → ScansLabels plan (label ∷ []) status old new → ScansFile plan file status old new
one_label plan label file status old new same scanned = (label ∷ [], ((λ empty. cc), All-cons (λ l. l.file ≡ file) label [] same (All-nil (λ l. l.file ≡ file))), scanned)

-- the faces so far, and the next one
pub next_face : (plan : Plan) (file : List ℕ) (label : Label) (count s t m : ℕ) (old mid new : Option (List ℕ)) → label.file ≡ file → ScansFaces plan file count s old mid → ScansLabels plan (label ∷ []) t mid new → m ≡ max s t → ScansFaces plan file (count + 1) m old new
next_face plan file label count s t m old mid new same before scanned greatest = record {
  labels = before.labels ++ label ∷ [];
  count_is = omega (arith, length-append before.labels (label ∷ []), before.count_is);
  faces = All-append (λ l. l.file ≡ file) before.labels (label ∷ []) before.faces (All-cons (λ l. l.file ≡ file) label [] same (All-nil (λ l. l.file ≡ file)));
  scanned = rw greatest (scans_both plan.options (are_alone plan.options plan.known.now) (is_listed_by plan.known.now) before.labels (label ∷ []) s t old mid new before.scanned scanned);
}

-- all faces, of which there is one
pub all_faces : (plan : Plan) (file : List ℕ) (count status : ℕ) (old new : Option (List ℕ)) → 1 ≤ count → ScansFaces plan file count status old new → ScansFile plan file status old new
all_faces plan file count status old new some faces = (faces.labels, (nonempty faces.labels faces.count_is, faces.faces), faces.scanned)
  where
    nonempty : (labels : List Label) → length labels ≡ count → labels ≢ []
    nonempty [] is = absurd (omega (arith, some, is))
    nonempty (l ∷ ls) is = λ empty. cc

-- a file after others
after_files : (plan : Plan) (files : List (List ℕ)) (file : List ℕ) (s t : ℕ) (old mid new : Option (List ℕ)) → ScansFiles plan files s old mid → ScansFile plan file t mid new → ScansFiles plan (files ++ file ∷ []) (max s t) old new
after_files plan files file s t old mid new (labels, are, first) (own, own_are, second) =
    (labels ++ own, more files file labels own are own_are, scans_both plan.options (are_alone plan.options plan.known.now) (is_listed_by plan.known.now) labels own s t old mid new first second)

-- the only file
pub only_file : (plan : Plan) (file : List ℕ) (status : ℕ) (old new : Option (List ℕ)) → ScansFile plan file status old new → ScansFiles plan (file ∷ []) status old new
only_file plan file status old new (own, own_are, scanned) = (own, more [] file [] own none own_are, scanned)

-- the files so far, and the next one
pub next_file : {X : Type 0} (plan : Plan) (text : X → List ℕ) (xs : List X) (i : ℕ) (x : X) (name : List ℕ) (s t m : ℕ) (old mid new : Option (List ℕ)) → i < length xs → x ≡ get_or xs i x → name ≡ text x → ScansFiles plan (map text (take i xs)) s old mid
    → ScansFile plan name t mid new → m ≡ max s t → ScansFiles plan (map text (take (i + 1) xs)) m old new
next_file plan text xs i x name s t m old mid new within item called so_far one greatest =
    let all : map text (take (i + 1) xs) ≡ map text (take i xs) ++ text x ∷ [] =
    ap (map text) (take_more xs i x within) ∙ map-append text (take i xs) (get_or xs i x ∷ []) ∙ ap (λ y. map text (take i xs) ++ text y ∷ []) (sym item) in
    rw (all, greatest, ← called) (after_files plan (map text (take i xs)) name s t old mid new so_far one)

pub all_files : {X : Type 0} (plan : Plan) (text : X → List ℕ) (xs : List X) (i s : ℕ) (old new : Option (List ℕ)) → length xs ≤ i → ScansFiles plan (map text (take i xs)) s old new → ScansFiles plan (map text xs) s old new
all_files plan text xs i s old new within scanned = subst (λ ys. ScansFiles plan (map text ys) s old new) (take_all i xs within) scanned
