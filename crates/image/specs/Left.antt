-- What a reader of records has left. Assumes nothing.
use Rattle.std.specs.Prelude.{List}
use Rattle.image.specs.declared.record.Records.{Records}
use Rattle.image.specs.Reading.{Told, told_after}

-- the records that it has not given yet
abbrev pub left : Records → List Told
left r = told_after r.register.image.now r.register.layout r.given
