-- The reasons for which an order is declined, each with its number and its word. Assumes nothing.
use Rattle.std.specs.Prelude.{ℕ, List, ◌++◌, codes, decimal}
use Rattle.network.specs.declared.refusal.Refusal.{Refusal}
use Rattle.network.specs.declared.refusal.Refusal.TheVariants as refusal

abbrev pub number_of : Refusal → ℕ
number_of refusal.Short = 1
number_of refusal.Mark = 2
number_of refusal.Name = 3
number_of refusal.Order = 4
number_of refusal.Ends = 5
number_of refusal.Figure = 6
number_of refusal.Full = 7
number_of refusal.Tail = 8
number_of refusal.Zero = 9
number_of refusal.Taken = 10
number_of refusal.Unknown = 11
number_of refusal.Crowded = 12
number_of refusal.Places = 13
number_of refusal.Rate = 14
number_of refusal.List = 15
number_of refusal.NoPair = 16
number_of refusal.Limit = 17
number_of refusal.Mode = 18

-- the word, as ASCII
abbrev pub word_of : Refusal → List ℕ
word_of refusal.Short = codes "short"
word_of refusal.Mark = codes "mark"
word_of refusal.Name = codes "name"
word_of refusal.Order = codes "order"
word_of refusal.Ends = codes "ends"
word_of refusal.Figure = codes "figure"
word_of refusal.Full = codes "full"
word_of refusal.Tail = codes "tail"
word_of refusal.Zero = codes "zero"
word_of refusal.Taken = codes "taken"
word_of refusal.Unknown = codes "unknown"
word_of refusal.Crowded = codes "crowded"
word_of refusal.Places = codes "places"
word_of refusal.Rate = codes "rate"
word_of refusal.List = codes "list"
word_of refusal.NoPair = codes "no pair"
word_of refusal.Limit = codes "limit"
word_of refusal.Mode = codes "mode"

-- a refusal as it is told: its number, a space and its word
abbrev pub refusal_text : Refusal → List ℕ
refusal_text r = decimal (number_of r) ++ (codes " " ++ word_of r)

-- a refused load as it is told: the refusal, and the offset or record at which it was
abbrev pub load_refusal_text : Refusal → ℕ → List ℕ
load_refusal_text r at = refusal_text r ++ (codes " at " ++ decimal at)
