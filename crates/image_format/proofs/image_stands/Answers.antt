use Rattle.image_format.proofs.image_stands.Goals as goal
use Rattle.image_format.proofs.Readings.{one_reading, refused_no_image, one_refusal}
use Rattle.image_format.proofs.Total.{image_or_refused}

pub returns : goal.returns
returns c = record { reading = one_reading; refused = refused_no_image; refusal = one_refusal; total = image_or_refused }
