-- Which fault a command reports, and what that tells of its input; out of memory is unspecified, and so
-- is why a scan, an explanation or a listing has a fault.
use Rattle.std.specs.Prelude.{◌≡◌, ◌≢◌, ◌⊎◌, ℕ, List, Some, None, alloc_error, true, unwrap_or, []}
use Rattle.tt_font.specs.Conditions.{maxp_fault}
use Rattle.tt_font.specs.FileFaults.{font_fault}
use Rattle.tt_font.specs.declared.fault.FontFault.{FontFault}
use Rattle.tt_font.specs.declared.fault.FontFault.TheVariants.{OutOfMemory}
use Rattle.hintcheck_words.specs.HexWords.{IsHexWord, Spells}
use Rattle.hintcheck_words.specs.Requests.{IsOutOfMemory, Request, bare, check, explain, find, is_taken, list, meaning, scan, upgrade, verdict}
use Rattle.hintcheck_words.specs.declared.words.TaskFault.{TaskFault}
use Rattle.hintcheck.specs.Commands.{status_of}
use Rattle.hintcheck_programs.specs.BarePrograms.{IsMemory}
use Rattle.hintcheck.specs.declared.commands.faults.CommandFault.{CommandFault}
use Rattle.hintcheck.specs.declared.commands.faults.CommandFault.TheVariants as fault

-- the fault is the first one of some bytes as those of a font; which fault it is where memory ran out
-- is unspecified
abbrev pub IsFaultOfSomeFont : FontFault → Type 0
IsFaultOfSomeFont f = (bytes : List ℕ) × (f ≢ OutOfMemory alloc_error → font_fault bytes ≡ Some f)

-- the words spell a `maxp` table and a program
abbrev pub AreHexWords : List ℕ → List ℕ → Type 0
AreHexWords maxp program = IsHexWord maxp × IsHexWord program

-- The words spell a program and a `maxp` table without a fault.
pub record SpellNoFault (maxp program : List ℕ) : Type 0 where
  pub words : AreHexWords maxp program
  pub table : List ℕ
  pub spelled : Spells maxp table
  pub none : maxp_fault table ≡ None

-- The words spell a program and a `maxp` table of which this is the first fault; or memory ran out
-- at one without a fault.
pub record SpellFault (maxp program : List ℕ) (f : FontFault) : Type 0 where
  pub words : AreHexWords maxp program
  pub table : List ℕ
  pub spelled : Spells maxp table
  pub first : (maxp_fault table ≡ Some f) ⊎ (IsMemory f × (maxp_fault table ≡ None))

-- Why there is no verdict on one glyph program: the first of the words that spells no bytes, or
-- else the fault of `maxp`; or the budget is exceeded, where these have none.
abbrev pub IsFaultOfGlyph : List ℕ → List ℕ → CommandFault → Type 0
IsFaultOfGlyph maxp program fault.MaxpWord = IsHexWord maxp → ⊥
IsFaultOfGlyph maxp program fault.ProgramWord = IsHexWord maxp × (IsHexWord program → ⊥)
IsFaultOfGlyph maxp program (fault.Font f container) = SpellFault maxp program f
IsFaultOfGlyph maxp program fault.OutOfMemory = Unit {0}
IsFaultOfGlyph maxp program fault.Budget = SpellNoFault maxp program
IsFaultOfGlyph maxp program other = ⊥

-- why there is no verdict on a font file
abbrev pub IsFaultOfFontFile : CommandFault → Type 0
IsFaultOfFontFile (fault.Font f container) = IsFaultOfSomeFont f
IsFaultOfFontFile (fault.Unopened word why) = Unit {0}
IsFaultOfFontFile (fault.TooLong word most) = Unit {0}
IsFaultOfFontFile (fault.Collection f) = Unit {0}
IsFaultOfFontFile (fault.ManyFaces count) = Unit {0}
IsFaultOfFontFile fault.Read = Unit {0}
IsFaultOfFontFile fault.OutOfMemory = Unit {0}
IsFaultOfFontFile fault.Budget = Unit {0}
IsFaultOfFontFile other = ⊥

-- why the bytes of a file aren't read
abbrev pub IsFaultOfReading : CommandFault → Type 0
IsFaultOfReading (fault.Unopened word why) = Unit {0}
IsFaultOfReading (fault.TooLong word most) = Unit {0}
IsFaultOfReading fault.Read = Unit {0}
IsFaultOfReading fault.OutOfMemory = Unit {0}
IsFaultOfReading other = ⊥

-- why there is no verdict on a font file, or its certificate isn't written
abbrev pub IsFaultOfCertifying : CommandFault → Type 0
IsFaultOfCertifying fault.File = Unit {0}
IsFaultOfCertifying other = IsFaultOfFontFile other

-- The same for a font file and a certificate's file with these names. One name stands for one file;
-- two names may, and no contract of the runtime tells which do.
abbrev pub IsFaultOfFinding : List ℕ → List ℕ → CommandFault → Type 0
IsFaultOfFinding font certificate reported =
    (reported ≡ fault.CertificateWord) ⊎ (font ≢ certificate × IsFaultOfCertifying reported)

-- why there is no verdict on a font file by what its certificate's file holds
abbrev pub IsFaultOfChecking : CommandFault → Type 0
IsFaultOfChecking (fault.Form place) = Unit {0}
IsFaultOfChecking fault.NoCertificate = Unit {0}
IsFaultOfChecking other = IsFaultOfFontFile other

-- why what a certificate's file holds isn't upgraded
abbrev pub IsFaultOfRewriting : CommandFault → Type 0
IsFaultOfRewriting (fault.Form place) = Unit {0}
IsFaultOfRewriting fault.NoCertificate = Unit {0}
IsFaultOfRewriting fault.File = Unit {0}
IsFaultOfRewriting other = IsFaultOfReading other

-- The same for an old certificate's file and a new one's with these names, which stand for files as
-- those of a font and its certificate do.
abbrev pub IsFaultOfUpgrading : List ℕ → List ℕ → CommandFault → Type 0
IsFaultOfUpgrading old new reported =
    (reported ≡ fault.NewWord) ⊎ (old ≢ new × IsFaultOfRewriting reported)

-- a text isn't printed
abbrev pub IsFaultOfPrinting : CommandFault → Type 0
IsFaultOfPrinting fault.Write = Unit {0}
IsFaultOfPrinting fault.Text = Unit {0}
IsFaultOfPrinting other = ⊥

-- Why what is asked for isn't answered: of a scan, an explanation and a listing this is unspecified.
abbrev pub IsFaultOfRequest : Request → CommandFault → Type 0
IsFaultOfRequest (bare maxp cvt points contours program profile) reported =
    IsFaultOfGlyph maxp (unwrap_or program []) reported
IsFaultOfRequest (verdict font options) reported = IsFaultOfFontFile reported
IsFaultOfRequest (find font certificate options) reported =
    IsFaultOfFinding font certificate reported
IsFaultOfRequest (check font certificate options) reported = IsFaultOfChecking reported
IsFaultOfRequest (upgrade old new max_bytes) reported = IsFaultOfUpgrading old new reported
IsFaultOfRequest other reported = Unit {0}

-- What is printed tells a fault, which gives this exit status: the line or the object of a font file
-- of a scan, or the object of an explanation, which is left unspecified.
abbrev pub HasToldFault : Request → ℕ → Type 0
HasToldFault (scan fonts options texts) status =
    (reported : CommandFault) × IsFaultOfFontFile reported × (status_of reported ≡ status)
HasToldFault (explain font program place options) status = Unit {0}
HasToldFault other status = ⊥

-- The words of `bare` have no fault, and those of `find` and of `upgrade` are two different ones.
abbrev pub HasNoFault : Request → Type 0
HasNoFault (bare maxp cvt points contours program profile) =
    SpellNoFault maxp (unwrap_or program [])
HasNoFault (find font certificate options) = font ≢ certificate
HasNoFault (upgrade old new max_bytes) = old ≢ new
HasNoFault other = Unit {0}

-- the request has this fault; or it has none, and its answer isn't printed
abbrev pub IsFaultOfTask : Request → CommandFault → Type 0
IsFaultOfTask request reported =
    IsFaultOfRequest request reported ⊎ (HasNoFault request × IsFaultOfPrinting reported)

-- clap's text, which is reported or isn't printed
abbrev pub IsFaultOfUsage : CommandFault → Type 0
IsFaultOfUsage (fault.Usage text) = Unit {0}
IsFaultOfUsage other = IsFaultOfPrinting other

-- this is reported where words ask for nothing for this reason: memory ran out, or clap's text
abbrev pub TellsNoTask : TaskFault → CommandFault → Type 0
TellsNoTask why reported = (IsOutOfMemory why × (reported ≡ fault.OutOfMemory))
    ⊎ ((IsOutOfMemory why → ⊥) × IsFaultOfUsage reported)

-- Why words get no answer: memory ran out; or the command line doesn't take them; or they ask for
-- something that has this fault.
pub data IsFaultOfWords (words : List (List ℕ)) : CommandFault → Type 0 where
  no_memory : IsFaultOfWords words fault.OutOfMemory
  not_taken : (reported : CommandFault) → (is_taken words ≡ true → ⊥) → IsFaultOfUsage reported
      → IsFaultOfWords words reported
  of_request : (reported : CommandFault) (request : Request) → meaning words ≡ Some request
      → IsFaultOfTask request reported → IsFaultOfWords words reported

-- The words ask for something that has no fault.
pub record MeansNoFault (words : List (List ℕ)) : Type 0 where
  pub request : Request
  pub meant : meaning words ≡ Some request
  pub none : HasNoFault request

-- A fault of the words is reported, which gives this status.
abbrev pub IsReported : List (List ℕ) → ℕ → Type 0
IsReported words status =
    (reported : CommandFault) × IsFaultOfWords words reported × (status ≡ status_of reported)

-- A fault of the words gives this status: it is reported, or told in what is printed.
pub data TellsFault (words : List (List ℕ)) (status : ℕ) : Type 0 where
  reported : IsReported words status → TellsFault words status
  told : (request : Request) → meaning words ≡ Some request → HasToldFault request status
      → TellsFault words status
