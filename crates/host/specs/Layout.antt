-- The bytes of an answer, and where they go. Assumes nothing.
use Rattle.std.specs.Prelude.{ℕ, ◌+◌, List, ◌++◌, map, length, take, drop}
use Rattle.image_format.specs.Image.{be16, be32, concat}

-- the circuits of a route, two bytes each
abbrev pub route_bytes : List ℕ → List ℕ
route_bytes route = concat (map be16 route)

-- both lengths, the cost, the circuits of the first route, then of the second
abbrev pub answer_bytes : List ℕ → List ℕ → ℕ → List ℕ
answer_bytes first second cost = be16 (length first) ++ (be16 (length second) ++ (be32 cost ++ (route_bytes first ++ route_bytes second)))

-- the buffer with these bytes from a place on; before it and after them it is as it was
abbrev pub with_bytes : List ℕ → ℕ → List ℕ → List ℕ
with_bytes buffer at bytes = take at buffer ++ (bytes ++ drop (at + length bytes) buffer)

-- the buffer with these bytes at its start
abbrev pub led_by : List ℕ → List ℕ → List ℕ
led_by bytes buffer = bytes ++ drop (length bytes) buffer
