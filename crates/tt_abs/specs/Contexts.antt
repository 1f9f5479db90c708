-- What holds of the calls that haven't returned, wherever a program comes without being refused.
use Rattle.std.specs.Prelude.{◌≡◌, ◌<◌, ◌≤◌, ◌^◌, List, false}
use Rattle.std.specs.List.{AllByRecursion}
use Rattle.tt_code.specs.declared.machine.Frame.{Frame}
use Rattle.tt_abs.specs.Covers.{has_body_twice}

-- the call is in one of its turns, and the number of turns is a number of the machine
pub record FrameFits (f : Frame) : Type 0 where
  pub begun : 1 ≤ f.turn
  pub within : f.turn ≤ f.count
  pub countable : f.count < 2 ^ 31

-- so it is for each call, and no body runs twice
pub record FramesFit (fs : List Frame) : Type 0 where
  pub each : AllByRecursion FrameFits fs
  pub once : has_body_twice fs ≡ false
