use Rattle.promise.proofs.PairBandwidth.{carries_up_to_bandwidth}
use Rattle.promise.proofs.pair_bandwidth_stands.Goals as goal

pub returns : goal.returns
returns c = carries_up_to_bandwidth
