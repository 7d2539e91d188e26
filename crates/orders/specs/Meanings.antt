-- What a line says: the form of each order. Assumes nothing.
use Rattle.std.specs.Prelude.{◌≡◌, ℕ, ◌⊎◌, List, [], ◌∷◌}
use Rattle.promise.specs.declared.Mode.{Mode}
use Rattle.calls.specs.declared.order.Ask.{Ask}
use Rattle.calls.specs.declared.order.Order.{Order}
use Rattle.calls.specs.declared.order.Order.TheVariants as order
use Rattle.orders.specs.declared.statement.Statement.{Statement}
use Rattle.orders.specs.declared.statement.Statement.TheVariants as statement
use Rattle.words.specs.declared.verbs.Verb.{Verb}
use Rattle.words.specs.declared.verbs.Verb.TheVariants as verb
use Rattle.words.specs.Figures.{Numeral, Place, mode_text}
use Rattle.words.specs.Verbs.{verb_text}
use Rattle.orders.specs.Lines.{Splits}

-- the words after the verb are one number, or two
abbrev pub One : List (List ℕ) → ℕ → Type 0
One args n = (a : List ℕ) × (args ≡ a ∷ []) × Numeral 32 a n

abbrev pub Two : List (List ℕ) → ℕ × ℕ → Type 0
Two args v = (a : List ℕ) × (b : List ℕ) × (args ≡ a ∷ b ∷ []) × Numeral 32 a v.0 × Numeral 32 b v.1

-- the words say an order over one number, or over two
abbrev pub SaidOne : {V : Type 0} → (ℕ → Order V) → List (List ℕ) → Statement V → Type 0
SaidOne make args s = (n : ℕ) × One args n × (s ≡ statement.Order (make n))

abbrev pub SaidTwo : {V : Type 0} → (ℕ → ℕ → Order V) → List (List ℕ) → Statement V → Type 0
SaidTwo make args s = (v : ℕ × ℕ) × Two args v × (s ≡ statement.Order (make v.0 v.1))

-- the words FROM and TO name these places
abbrev pub Leads : List (List ℕ) → List ℕ → List ℕ → ℕ × ℕ → Type 0
Leads names from to v = Place names from v.0 × Place names to v.1

-- the words FROM, TO, RATE and MODE ask for this
abbrev pub Asks : List (List ℕ) → List ℕ → List ℕ → List ℕ → List ℕ → Ask → Type 0
Asks names from to rate mode ask =
    Place names from ask.from × Place names to ask.to × Numeral 32 rate ask.rate × (mode ≡ mode_text ask.mode)

-- given how a limit is spelled, and the names of the places in order
module _ {V : Type 0} (spells : List ℕ → V → Type 0) (names : List (List ℕ)) where
  -- FROM TO RATE MODE
  abbrev pub SaidSafest : List (List ℕ) → Statement V → Type 0
  SaidSafest args s =
      (from : List ℕ) × (to : List ℕ) × (rate : List ℕ) × (mode : List ℕ) × (ask : Ask) × (args ≡ from ∷ to ∷ rate ∷ mode ∷ [])
      × Asks names from to rate mode ask
      × (s ≡ statement.Order (order.Safest ask))

  -- FROM TO MODE LIMIT
  abbrev pub SaidWidest : List (List ℕ) → Statement V → Type 0
  SaidWidest args s =
      (from : List ℕ) × (to : List ℕ) × (mode : List ℕ) × (limit : List ℕ) × (a : ℕ) × (b : ℕ) × (m : Mode) × (l : V)
      × (args ≡ from ∷ to ∷ mode ∷ limit ∷ [])
      × Place names from a
      × Place names to b
      × (mode ≡ mode_text m)
      × spells limit l
      × (s ≡ statement.Order (order.Widest a b m l))

  -- FEED FROM TO RATE MODE LIMIT
  abbrev pub SaidBook : List (List ℕ) → Statement V → Type 0
  SaidBook args s =
      (feed : List ℕ) × (from : List ℕ) × (to : List ℕ) × (rate : List ℕ) × (mode : List ℕ) × (limit : List ℕ) × (n : ℕ) × (ask : Ask) × (l : V)
      × (args ≡ feed ∷ from ∷ to ∷ rate ∷ mode ∷ limit ∷ [])
      × Numeral 32 feed n
      × Asks names from to rate mode ask
      × spells limit l
      × (s ≡ statement.Order (order.Book n ask l))

  -- the words after the verb say this statement
  abbrev pub Said : Verb → List (List ℕ) → Statement V → Type 0
  Said verb.Safest args s = SaidSafest args s
  Said verb.Widest args s = SaidWidest args s
  Said verb.Book args s = SaidBook args s
  Said verb.Release args s = SaidOne order.Release args s
  Said verb.Close args s = SaidTwo order.Close args s
  Said verb.Reopen args s = SaidOne order.Reopen args s
  Said verb.Left args s = SaidOne order.Left args s
  Said verb.Open args s = SaidOne order.Open args s
  Said verb.Uses args s = SaidTwo order.Uses args s
  Said verb.Routes args s = (args ≡ []) × (s ≡ statement.Routes)
  Said verb.Map args s = (args ≡ []) × (s ≡ statement.Map)

  -- the words say this statement: no words say nothing, and else the first word is a verb
  abbrev pub Means : List (List ℕ) → Statement V → Type 0
  Means words s =
      ((words ≡ []) × (s ≡ statement.Blank))
      ⊎ ((v : Verb) × (args : List (List ℕ)) × (words ≡ verb_text v ∷ args) × Said v args s)

  -- the words of the line say this statement
  abbrev pub LineMeans : List ℕ → Statement V → Type 0
  LineMeans line s = (words : List (List ℕ)) × Splits line words × Means words s

-- every line has words, whatever its bytes are, and just one list of words
pub record LinesSplit : Type 0 where
  pub some : (line : List ℕ) → (words : List (List ℕ)) × Splits line words
  pub one : (line : List ℕ) (ws ws' : List (List ℕ)) → Splits line ws → Splits line ws' → ws ≡ ws'

-- a line says one statement at most
abbrev pub OneMeaning : {V : Type 0} → (List ℕ → V → Type 0) → Type 0
OneMeaning {V} spells =
    (names : List (List ℕ)) (line : List ℕ) (s t : Statement V) → LineMeans spells names line s → LineMeans spells names line t → s ≡ t
