-- Where successors are: an instruction that stays in its body keeps the frames, so what it becomes runs no body twice.
use Rattle.std.specs.Prelude.{ℤ, nat_eq, nat_lt, slice_get, ◌≤◌, not, if◌then◌else◌}
use Rattle.std.proofs.Common.{◌≡◌, ℕ, zero, suc, ◌+◌, List, [], ◌∷◌, Ok, Err, Some, sym, ◌∙◌, ap, subst, inl, arith, length, Bool, true, false}
use Rattle.tt_code.specs.Refusals.{Tested, ◌>>=◌, holds_or, some_or}
use Rattle.tt_code.specs.Table.{Meaning, NoEntry, Plain, Pushes, Stack, Computes, Controls}
use Rattle.tt_code.specs.Structure.{after_if, after_else, after_fdef}
use Rattle.tt_code.specs.Settings.{Setting, program_of}
use Rattle.tt_code.specs.States.{Machine, Outcome, is_below, is_true}
use Rattle.tt_code.specs.Operands.{top}
use Rattle.tt_code.specs.Control.{may_define}
use Rattle.tt_code.specs.Runs.{within_depth}
use Rattle.tt_code.specs.declared.machine.Frame.{Frame}
use Rattle.tt_code.specs.declared.reason.Reason.TheVariants as reason
use Rattle.tt_code.specs.declared.kinds.Control.{Control}
use Rattle.tt_code.specs.declared.kinds.Control.TheVariants.{If, Else, Jump, JumpIfTrue, JumpIfFalse, Call, LoopCall, FunctionDefinition, EndFunction, InstructionDefinition}
use Rattle.tt_abs.specs.declared.cells.Cell.{Cell}
use Rattle.tt_abs.specs.declared.cells.Cell.TheVariants.{Known, Unknown}
use Rattle.tt_abs.specs.Cells.{Abstract}
use Rattle.tt_abs.specs.Covers.{TransfersTo, has_body_twice, SomeRecurs, StandsFor}
use Rattle.tt_abs.specs.Representation.Followed.{is_followed}
use Rattle.tt_abs.specs.Transfers.{Next, one_way, two_ways, known, leaves_cells, jump_target, jumps_cells, jumps_by, jumps_if_cells, if_ways, goes_on_cells, plain_cells, shuffled_cells, computed_cells, controlled_cells, does_cells, are_within, within_cells}
use Rattle.tt_abs.proofs.Depth.{depth_of_ways}

-- at most two next places, and the frames of each have a property
abbrev pub LeadTo : (List Frame → Type 0) → Tested (List Next) → Type 0
LeadTo Has (Err r) = Unit {0}
LeadTo Has (Ok ns) = (length ns ≤ 2) × ((i : ℕ) (n : Next) → slice_get ns i ≡ Some n → Has n.frames)

module _ (Has : List Frame → Type 0) where
  pub leads_after : {A : Type 0} (t : Tested A) (f : A → Tested (List Next)) → ((x : A) → LeadTo Has (f x)) → LeadTo Has (t >>= f)
  leads_after (Ok x) f h = h x
  leads_after (Err r) f h = tt

  pub leads_one : (fs : List Frame) (next : ℕ) (b : Abstract) → Has fs → LeadTo Has (Ok (one_way fs next b))
  leads_one fs next b h = (omega arith, one)
    where
      one : (i : ℕ) (n : Next) → slice_get (one_way fs next b) i ≡ Some n → Has n.frames
      one zero n e =
          let is : record { frames = fs; offset = next; state = b } ≡ n = cc in
          let H : Next → Type 0 = λ n. Has n.frames in subst H is h
      one (suc i) n e = absurd (cc)

  leads_two : (fs : List Frame) (one other : ℕ) (b : Abstract) → Has fs → LeadTo Has (Ok (record { frames = fs; offset = one; state = b } ∷ one_way fs other b))
  leads_two fs one other b h = (omega arith, two)
    where
      two : (i : ℕ) (n : Next) → slice_get (record { frames = fs; offset = one; state = b } ∷ one_way fs other b) i ≡ Some n → Has n.frames
      two zero n e =
          let is : record { frames = fs; offset = one; state = b } ≡ n = cc in
          let H : Next → Type 0 = λ n. Has n.frames in subst H is h
      two (suc i) n e = (leads_one fs other b h).1 i n e

  pub leads_both : (fs : List Frame) (one other : ℕ) (b : Abstract) → Has fs → LeadTo Has (Ok (two_ways fs one other b))
  leads_both fs one other b h = go (nat_eq one other) (nat_lt one other)
    where
      go : (c d : Bool)
          → LeadTo Has (Ok (if c then one_way fs one b else if d then record { frames = fs; offset = one; state = b } ∷ one_way fs other b else record { frames = fs; offset = other; state = b } ∷ one_way fs one b))
      go true d = leads_one fs one b h
      go false true = leads_two fs one other b h
      go false false = leads_two fs other one b h

  pub leads_within : (s : Setting) (r : Tested (List Next)) → LeadTo Has r → LeadTo Has (r >>= within_cells s)
  leads_within s (Err r) h = tt
  leads_within s (Ok ns) h = go (are_within s ns)
    where
      go : (b : Bool) → LeadTo Has (holds_or b reason.Overflow >>= (λ ok. Ok ns))
      go true = h
      go false = tt

  -- each instruction that stays in its body

  module _ (s : Setting) (fs : List Frame) (at : ℕ) (a : Abstract) (here : Has fs) where
    jumps_lead : (by : Cell) (stack : List Cell) → LeadTo Has (jumps_cells s fs at a by stack)
    jumps_lead by stack = leads_after (jump_target s fs at by stack) (λ target. Ok (one_way fs target (leaves_cells a stack []))) (λ target. leads_one fs target (leaves_cells a stack []) here)

    jumps_by_lead : (holds : ℤ → Bool) (e by : Cell) (stack : List Cell) → LeadTo Has (jumps_by s fs at a holds e by stack)
    jumps_by_lead holds (Known e) by stack = go (holds e)
      where
        go : (b : Bool) → LeadTo Has (if b then jumps_cells s fs at a by stack else Ok (one_way fs (at + 1) (leaves_cells a stack [])))
        go true = jumps_lead by stack
        go false = leads_one fs (at + 1) (leaves_cells a stack []) here
    jumps_by_lead holds Unknown by stack =
        leads_after (jump_target s fs at by stack) (λ target. Ok (two_ways fs (at + 1) target (leaves_cells a stack []))) (λ target. leads_both fs (at + 1) target (leaves_cells a stack []) here)

    jumps_if_lead : (holds : ℤ → Bool) → LeadTo Has (jumps_if_cells s fs at a holds)
    jumps_if_lead holds =
        leads_after (top a.stack) (λ e. top e.1 >>= (λ by. jumps_by s fs at a holds e.0 by.0 by.1))
        (λ e. leads_after (top e.1) (λ by. jumps_by s fs at a holds e.0 by.0 by.1) (λ by. jumps_by_lead holds e.0 by.0 by.1))

    if_leads : (e : Cell) (stack : List Cell) → LeadTo Has (if_ways s fs at a e stack)
    if_leads (Known e) stack =
        leads_after (if is_true e then Ok (at + 1) else some_or (after_if (program_of s fs) at) reason.Target) (λ after. Ok (one_way fs after (leaves_cells a stack [])))
        (λ after. leads_one fs after (leaves_cells a stack []) here)
    if_leads Unknown stack =
        leads_after (some_or (after_if (program_of s fs) at) reason.Target) (λ after. Ok (two_ways fs (at + 1) after (leaves_cells a stack [])))
        (λ after. leads_both fs (at + 1) after (leaves_cells a stack []) here)

    controlled_leads : (c : Control) → is_followed (Controls c) ≡ true → LeadTo Has (controlled_cells s fs at a c)
    controlled_leads If followed = leads_after (top a.stack) (λ e. if_ways s fs at a e.0 e.1) (λ e. if_leads e.0 e.1)
    controlled_leads Else followed =
        leads_after (some_or (after_else (program_of s fs) at) reason.Target) (λ after. Ok (one_way fs after (leaves_cells a a.stack []))) (λ after. leads_one fs after (leaves_cells a a.stack []) here)
    controlled_leads Jump followed = leads_after (top a.stack) (λ by. jumps_cells s fs at a by.0 by.1) (λ by. jumps_lead by.0 by.1)
    controlled_leads JumpIfTrue followed = jumps_if_lead is_true
    controlled_leads JumpIfFalse followed = jumps_if_lead (λ e. not (is_true e))
    controlled_leads Call followed = absurd (cc)
    controlled_leads LoopCall followed = absurd (cc)
    controlled_leads FunctionDefinition followed =
        leads_after (holds_or (may_define s.kind) reason.Definition) _
        (λ may. leads_after (top a.stack) _
        (λ t. leads_after (known t.0) _
        (λ n. leads_after (holds_or (is_below n s.limits.functions) reason.Function) _
        (λ ok. leads_after (some_or (after_fdef (program_of s fs) at) reason.Target) _ (λ after. leads_one fs after _ here)))))
    controlled_leads EndFunction followed = absurd (cc)
    controlled_leads InstructionDefinition followed = tt

    behind_leads : (next : ℕ) (r : Tested Abstract) → LeadTo Has (goes_on_cells fs next r)
    behind_leads next r = leads_after r (λ b. Ok (one_way fs next b)) (λ b. leads_one fs next b here)

    pub does_leads : (w : Meaning) → is_followed w ≡ true → (rest : List ℕ) (next : ℕ) → LeadTo Has (does_cells s fs at a w rest next)
    does_leads NoEntry followed rest next = tt
    does_leads (Plain line) followed rest next = behind_leads next (plain_cells s a line)
    does_leads (Pushes push) followed rest next = leads_one fs next _ here
    does_leads (Stack op) followed rest next = behind_leads next (shuffled_cells op a)
    does_leads (Computes op) followed rest next = behind_leads next (computed_cells op a)
    does_leads (Controls c) followed rest next = controlled_leads c followed

-- no body runs twice
abbrev pub RunOnce : List Frame → Type 0
RunOnce fs = has_body_twice fs ≡ false

-- Where no next place runs a body twice, what stands for the machine is all that is said of it.
pub settled_stands : (a : Abstract) (fs : List Frame) (at : ℕ) (does : Machine → Tested Outcome) (r : Tested (List Next)) → LeadTo RunOnce r → TransfersTo a fs at does r → StandsFor a fs at does r
settled_stands a fs at does (Err q) l h = inl h
settled_stands a fs at does (Ok ns) l h = record { none_faults = h.0; none_recurs = none; few = l.0; covers = h.1 }
  where
    none : SomeRecurs a fs at does → ⊥
    none w =
        let (m, b, twice) = w in
        let (i, n, e, f, p) = h.1.places m b in
        let no_such : true ≡ false = sym twice ∙ ap has_body_twice f ∙ l.1 i n e in absurd (cc)

-- the same before the test of the depth
pub settled_within : (s : Setting) (a : Abstract) (fs : List Frame) (at : ℕ) (does : Machine → Tested Outcome) (r : Tested (List Next)) → LeadTo RunOnce r → TransfersTo a fs at does r
    → StandsFor a fs at (λ m. does m >>= within_depth s) (r >>= within_cells s)
settled_within s a fs at does r l h =
    settled_stands a fs at (λ m. does m >>= within_depth s) (r >>= within_cells s) (leads_within RunOnce s r l) (depth_of_ways s a fs at does r h)
