-- What holds of a table `post` by its format.
use Rattle.std.proofs.Common.{◌≡◌, ℕ, ◌≤◌, List, length, Bool, true, false, refl}
use Rattle.std.specs.Prelude.{◌==◌, ◌&&◌, if◌then◌else◌, nat_le, nat_lt}
use Rattle.std.proofs.lemmas.Bool.{leb-true}
use Rattle.tt_font.specs.Numbers.{u32_at}
use Rattle.tt_names.specs.Post.{format_of, strings_start}
use Rattle.tt_names.specs.declared.post.Format.TheVariants.{Unnamed, Standard, Listed}

-- of three tests the last one holds
last_test : (short first last : Bool)
    → (if short then Unnamed else (if first then Standard else (if last then Listed else Unnamed))) ≡ Listed → last ≡ true
last_test true first last e = absurd (cc)
last_test false true last e = absurd (cc)
last_test false false true e = refl
last_test false false false e = absurd (cc)

and_right : (a b : Bool) → (a && b) ≡ true → b ≡ true
and_right true b e = e
and_right false b e = cc

-- the indices are there
pub has_indices : (post : List ℕ) → format_of post ≡ Listed → strings_start post ≤ length post
unfolding format_of
has_indices post e =
    leb-true _ _ (and_right (u32_at 0 post == 0x20000) (nat_le (strings_start post) (length post))
    (last_test (nat_lt (length post) 32) (u32_at 0 post == 0x10000) _ e))
