-- How an object of JSON begins, in a line: what comes after the status is left unspecified. (RFC 8259.
-- Own: the members and their names.)
use Rattle.std.specs.Prelude.{ℕ, codes, List, [], ◌++◌, None, Option, Some}
use Rattle.std.specs.Fmt.{decimal}
use Rattle.json.specs.Print.{quoted}
use Rattle.hintcheck_words.specs.declared.words.Profile.{Profile}
use Rattle.hintcheck_words.specs.declared.words.Profile.TheVariants.{Both, Strict, Symbolic}
use Rattle.hintcheck_fonts.specs.declared.request.Request.{Request}
use Rattle.hintcheck_fonts.specs.declared.request.Request.TheVariants as request
use Rattle.hintcheck.specs.FontLabels.{Label}

-- the profile that is asked for, in a word
abbrev pub profile_name : Profile → List ℕ
profile_name (Strict max_steps) = codes "strict"
profile_name (Symbolic max_steps) = codes "symbolic"
profile_name (Both max_steps) = codes "both"

-- the profile whose verdict it is, in a word
abbrev pub request_name : Request → List ℕ
request_name request.Strict = codes "strict"
request_name (request.Symbolic steps) = codes "symbolic"

-- the member that tells the number of a face, where there is one
abbrev pub face_member : Option ℕ → List ℕ
face_member None = []
face_member (Some number) = codes ",\"face\":" ++ decimal number

-- how the object of a font file begins: the version of the form, the tool with its version, the file's
-- name and the face, the profile in a word, and the exit status
abbrev pub beginning : Label → List ℕ → ℕ → List ℕ
beginning label profile status =
    codes "{\"version\":1,\"tool\":{\"name\":\"hintcheck\",\"version\":\"0.9.0\"},\"file\":"
    ++ (quoted label.file ++ (face_member label.face ++ (codes ",\"profile\":\"" ++ (profile
    ++ (codes "\",\"status\":" ++ (decimal status ++ codes ","))))))
