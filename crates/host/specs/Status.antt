-- The number that C gets. Assumes nothing.
use Rattle.std.specs.Prelude.{ℕ, Ok, Err, Result}
use Rattle.network.specs.declared.refusal.Refusal.{Refusal}
use Rattle.network.specs.Refusals.{number_of}
use Rattle.host.specs.declared.failure.Failure.{Failure}
use Rattle.host.specs.declared.failure.Failure.TheVariants as failure

-- a refusal has its number, and want of memory 255
abbrev pub failure_number : Failure → ℕ
failure_number (failure.Refused refusal) = number_of refusal
failure_number failure.NoMemory = 255

-- what an order comes to: 0 where it brought a pair, and otherwise the refusal's number
abbrev pub order_status : Result (Unit {0}) Refusal → ℕ
order_status (Ok _) = 0
order_status (Err refusal) = number_of refusal

-- what a call returns: 0 where it brought a pair, and otherwise why not
abbrev pub status : Result (Unit {0}) Failure → ℕ
status (Ok _) = 0
status (Err f) = failure_number f
