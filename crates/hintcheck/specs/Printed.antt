-- What is printed for what the words of a command line ask for.
use Rattle.std.specs.Prelude.{◌≡◌, ◌≢◌, ◌⊎◌, ℕ, Bool, false, List, [], Option, Some}
use Rattle.std.specs.Io.KnownBytes.{Appends}
use Rattle.hintcheck_words.specs.Requests.{Request, bare, check, explain, find, list, meaning, scan, upgrade, verdict}
use Rattle.hintcheck_words.specs.declared.words.Detail.{Detail}
use Rattle.hintcheck.specs.CommandFaults.{HasToldFault, IsReported}
use Rattle.hintcheck.specs.Listing.{HoldListedProgram, HoldToldProgram}
use Rattle.hintcheck.specs.MeansSafe.{IsVerdictAsked}
use Rattle.hintcheck.specs.ScannedNames.{HoldsOfScanned}
use Rattle.hintcheck.specs.Scans.{PrintsScanning}
use Rattle.hintcheck.specs.Texts.{told_text, upgraded_line}
use Rattle.hintcheck_certificates.specs.Upgrades.{IsNumberOfPrograms}
use Rattle.hintcheck_fonts.specs.declared.request.Request.{Request as VerdictRequest}
use Rattle.hintcheck_programs.specs.Verdicts.{Judgement}

-- whether the last line of the verdict alone is asked for
abbrev pub asks_last_line : Request → Bool
asks_last_line (verdict font options) = options.is_quiet
asks_last_line other = false

-- The lines of the verdict that is asked for were written, where the written bytes are known: of
-- one that refuses no program where the status is 0, and of one that refuses some where it is 1. They
-- tell the profile whose verdict it is.
pub record PrintsVerdict (request : Request) (status : ℕ) (old new : Option (List ℕ)) : Type 0 where
  pub by : VerdictRequest
  pub judgement : Judgement
  pub given : IsVerdictAsked request by judgement
  pub accepted : status ≡ 0 → judgement.refused ≡ []
  pub refused : status ≡ 1 → judgement.refused ≢ []
  pub written : Appends old new (told_text (asks_last_line request) by judgement)

-- Some bytes hold a font, and the word is the name of a program of it: its lines were written with
-- this detail where the status is 0, and where it is 1 the line that tells why it isn't listed.
pub record PrintsListing (detail : Detail) (word : List ℕ) (status : ℕ)
    (old new : Option (List ℕ)) : Type 0 where
  pub bytes : List ℕ
  pub listed : status ≡ 0 → HoldListedProgram detail bytes word old new
  pub told : status ≡ 1 → HoldToldProgram bytes word old new

-- the line of an upgrade was written, with as many sections as a font may have programs
abbrev pub PrintsUpgrade : Option (List ℕ) → Option (List ℕ) → Type 0
PrintsUpgrade old new =
    (count : ℕ) × IsNumberOfPrograms count × Appends old new (upgraded_line count)

-- what was asked for is answered in these lines; those of an explanation are left unspecified
abbrev pub Prints : Request → ℕ → Option (List ℕ) → Option (List ℕ) → Type 0
Prints (scan fonts options texts) status old new = HoldsOfScanned options.words fonts texts.name
    (λ labels. PrintsScanning options labels texts.expected status old new)
Prints (explain font program place options) status old new = Unit {0}
Prints (list font program options) status old new =
    PrintsListing options.detail program status old new
Prints (upgrade before after max_bytes) status old new = PrintsUpgrade old new
Prints (bare maxp cvt points contours program profile) status old new =
    PrintsVerdict (bare maxp cvt points contours program profile) status old new
Prints (verdict font options) status old new =
    PrintsVerdict (verdict font options) status old new
Prints (find font certificate options) status old new =
    PrintsVerdict (find font certificate options) status old new
Prints (check font certificate options) status old new =
    PrintsVerdict (check font certificate options) status old new

-- The words ask for something, which is answered in these lines.
pub record MeansPrinted (words : List (List ℕ)) (status : ℕ)
    (old new : Option (List ℕ)) : Type 0 where
  pub request : Request
  pub meant : meaning words ≡ Some request
  pub printed : Prints request status old new

-- The words ask for something of which a fault is told, which gives this status, and what tells it
-- was written: the lines of a scan, whose greatest status of its fonts this is, or the object of an
-- explanation.
pub record PrintsFault (words : List (List ℕ)) (status : ℕ)
    (old new : Option (List ℕ)) : Type 0 where
  pub request : Request
  pub meant : meaning words ≡ Some request
  pub told : HasToldFault request status
  pub printed : Prints request status old new

-- the words have a fault that gives this status, which is reported, or told in what was printed
abbrev pub TellsPrinted : List (List ℕ) → ℕ → Option (List ℕ) → Option (List ℕ) → Type 0
TellsPrinted words status old new = IsReported words status ⊎ PrintsFault words status old new
