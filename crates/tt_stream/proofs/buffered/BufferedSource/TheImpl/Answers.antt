use Rattle.tt_stream.proofs.Ahead.{starts_known, starts_whole}
use Rattle.tt_stream.proofs.buffered.BufferedSource.TheImpl.Goals as goal

pub ahead-tells : goal.ahead-tells
ahead-tells g c = record {
  value = starts_whole _ _ c.ensures.all;
  front = starts_known (g.S.Source.remaining c.args.self.now.source) _ _ c.ensures.all;
}
