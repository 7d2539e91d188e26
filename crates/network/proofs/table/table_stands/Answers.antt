use Rattle.network.proofs.Tables.{proper_or_refused, proper_not_refused, one_table_refusal}
use Rattle.network.proofs.table.table_stands.Goals as goal

pub returns : goal.returns
returns c = record { total = proper_or_refused; apart = proper_not_refused; refusal = one_table_refusal }
