use Rattle.tt_stream.proofs.Ahead.{starts_whole}
use Rattle.tt_stream.proofs.bytes.BytesSource.TheImpl.Goals as goal

pub ahead-tells : goal.ahead-tells
ahead-tells g c = let whole = starts_whole _ _ c.ensures.all in record { value = whole; front = whole }
