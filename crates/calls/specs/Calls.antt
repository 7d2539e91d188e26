-- Orders and answers as the promise speaks of them. Assumes nothing.
use Rattle.std.specs.Prelude.{ℕ, cond, List, [], ◌∷◌, Result, Ok, Err, vec_items}
use Rattle.network.specs.declared.refusal.Refusal.{Refusal}
use Rattle.network.specs.Refusals.{number_of}
use Rattle.promise.specs.declared.Mode.{Mode}
use Rattle.promise.specs.Promise as promise
use Rattle.promise.specs.Promise.{Call, act, tell, Entry}
use Rattle.calls.specs.declared.order.Ask.{Ask}
use Rattle.calls.specs.declared.order.Order.{Order}
use Rattle.calls.specs.declared.order.Order.TheVariants as order
use Rattle.calls.specs.declared.answer.Reply.{Reply}
use Rattle.calls.specs.declared.answer.Reply.TheVariants as reply

-- the calls that plan, with the lengths of the two lists
abbrev pub safest_call : {V : Type 0} → Ask → ℕ → ℕ → Call V
safest_call ask p q = promise.plan (promise.safest ask.from ask.to ask.rate ask.mode) p q

abbrev pub widest_call : {V : Type 0} → ℕ → ℕ → Mode → V → ℕ → ℕ → Call V
widest_call from to mode limit p q = promise.plan (promise.widest from to mode limit) p q

abbrev pub book_call : {V : Type 0} → ℕ → Ask → V → ℕ → ℕ → Call V
book_call feed ask limit p q = promise.plan (promise.book feed ask.from ask.to ask.rate ask.mode limit) p q

-- the call of an order; the two lists of a run have room for 127 circuits each
abbrev pub call_of : {V : Type 0} → Order V → Call V
call_of (order.Safest ask) = safest_call ask 127 127
call_of (order.Widest from to mode limit) = widest_call from to mode limit 127 127
call_of (order.Book feed ask limit) = book_call feed ask limit 127 127
call_of (order.Release feed) = act (promise.release feed)
call_of (order.Close notice circuit) = act (promise.close notice circuit)
call_of (order.Reopen notice) = act (promise.reopen notice)
call_of (order.Left circuit) = tell (promise.left circuit)
call_of (order.Open circuit) = tell (promise.opens circuit)
call_of (order.Uses feed circuit) = tell (promise.uses feed circuit)

-- an `Answer`, since antt has no name for an alias
abbrev pub Outcome : Type 0 → Type 0
Outcome V = Result (Reply V) Refusal

-- the answer as the ledger is told it: a refusal by its number, open as 1 and closed as 0
abbrev pub answer_of : {V : Type 0} → Outcome V → promise.Answer V
answer_of (Err refusal) = promise.refused (number_of refusal)
answer_of (Ok (reply.Pair rate first second cost)) = promise.pair rate (vec_items first) (vec_items second) cost
answer_of (Ok reply.Done) = promise.done
answer_of (Ok (reply.Left left)) = promise.told left
answer_of (Ok (reply.Open whether)) = promise.told (cond whether 1 0)
answer_of (Ok (reply.Uses times)) = promise.told times

-- each order with its answer
abbrev pub entries : {V : Type 0} → List (Order V) → List (Outcome V) → List (Entry V)
entries [] answers = []
entries (o ∷ orders) [] = []
entries (o ∷ orders) (a ∷ answers) = record { call = call_of o; answer = answer_of a } ∷ entries orders answers
