use Rattle.std.proofs.Common.{◌≡◌, ◌≤◌, ◌-◌, ◌++◌, ◌∷◌, ◌∙◌, ℕ, List, [], Option, drop, get_or, length, refl, take, arith, append_assoc}
use Rattle.std.specs.Prelude.{flat_map}
use Rattle.std.specs.Io.KnownBytes.{Appends}
use Rattle.std.proofs.KnownBytes.{Appends-trans}
use Rattle.std.proofs.lemmas.List.{take_all}
use Rattle.tt_code.specs.Computing.{word_number, words}
use Rattle.hintcheck.specs.Listing.{spaced}
use Rattle.hintcheck.proofs.pushed_numbers.print_words.Goals as goal

-- one more word
more : (all rest done : List ℕ) (n : ℕ) (old mid new : Option (List ℕ)) → 2 ≤ length rest → n ≡ length rest
    → done ++ flat_map spaced (words rest) ≡ flat_map spaced (words all) → Appends old mid done → Appends mid new (spaced (word_number (get_or rest 0 0) (get_or rest 1 0)))
    → (x : List ℕ) × (x ++ flat_map spaced (words (take (n - 2) (drop 2 rest))) ≡ flat_map spaced (words all)) × Appends old new x
more all [] done n old mid new two len whole before line = absurd (omega arith)
more all (high ∷ []) done n old mid new two len whole before line = absurd (omega arith)
more all (high ∷ low ∷ rest) done n old mid new two len whole before line =
    let same : take (n - 2) rest ≡ rest = take_all (n - 2) rest (omega arith) in
    (done ++ spaced (word_number high low), rw same (append_assoc done (spaced (word_number high low)) (flat_map spaced (words rest)) ∙ whole), Appends-trans old mid new done (spaced (word_number high low)) before line)

pub loop-rest-preserved : goal.loop-rest-preserved
loop-rest-preserved g c =
    let (done, whole, before) = c.loop-rest.invariant.written in
    record {
      written = more c.args.bytes.now c.loop-rest.rest.now done _ _ _ _ c.in-len2-up.len_at_least refl whole before c.in_ok-print_word.ensures.written;
      failures = c.in_ok-print_word.ensures.failures ∙ c.loop-rest.invariant.failures;
    }
