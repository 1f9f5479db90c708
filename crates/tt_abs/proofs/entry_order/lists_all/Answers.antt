use Rattle.std.proofs.Common.{◌≡◌, ℕ, Bool, List, length, sym, subst}
use Rattle.std.specs.Bool.{Decides}
use Rattle.std.proofs.lemmas.Bool.Decides.{Decides-like}
use Rattle.tt_setting.specs.Entries.{Ascends}
use Rattle.tt_abs.specs.EntryOrders.{EntriesBelow}
use Rattle.tt_abs.specs.EntryLaws.{entries-same}
use Rattle.tt_abs.proofs.entry_order.lists_all.Goals as goal

-- of lists of one length, one is below the other exactly if they are the same
below-same : {V : Type 0} (a b : List (ℕ × V)) (r : Bool) → Ascends a → Ascends b → length a ≡ length b → Decides r (a ≡ b) → Decides r (EntriesBelow a b)
below-same {V} a b r ra rb long h =
    Decides-like r (λ e. let P : List (ℕ × V) → Type 0 = λ c. EntriesBelow a c in subst P e (λ n v l. l)) (λ p. entries-same a b ra rb p (sym long)) h

pub returns-then-mine-theirs : goal.returns-then-mine-theirs
returns-then-mine-theirs g c =
    below-same c.args.mine.now c.args.theirs.now c.are_same.result c.requires.mine_ascend c.requires.theirs_ascend c.if-mine-theirs.true c.are_same.ensures
