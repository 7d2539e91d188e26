-- The verbs of orders as text. Assumes nothing.
use Rattle.std.specs.Prelude.{ℕ, List, codes}
use Rattle.words.specs.declared.verbs.Verb.{Verb}
use Rattle.words.specs.declared.verbs.Verb.TheVariants as verb

-- the word that each verb is
abbrev pub verb_text : Verb → List ℕ
verb_text verb.Safest = codes "safest"
verb_text verb.Widest = codes "widest"
verb_text verb.Book = codes "book"
verb_text verb.Release = codes "release"
verb_text verb.Close = codes "close"
verb_text verb.Reopen = codes "reopen"
verb_text verb.Left = codes "left"
verb_text verb.Open = codes "open"
verb_text verb.Uses = codes "uses"
verb_text verb.Routes = codes "routes"
verb_text verb.Map = codes "map"
