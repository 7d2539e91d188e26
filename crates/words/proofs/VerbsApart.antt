-- A word is one verb at most.
use Rattle.std.proofs.Common.{◌≡◌, ℕ, cond, List, codes, sym, refl, ap, ◌∙◌}
use Rattle.std.specs.Str.{bytes_eq}
use Rattle.promise.specs.declared.Mode.{Mode}
use Rattle.promise.specs.declared.Mode.TheVariants.{OnePlusOne, OneToOne}
use Rattle.words.specs.declared.verbs.Verb.{Verb}
use Rattle.words.specs.declared.verbs.Verb.TheVariants.{Safest, Widest, Book, Release, Close, Reopen, Left, Open, Uses, Routes, Map}
use Rattle.words.specs.Figures.{mode_text}
use Rattle.words.specs.Verbs.{verb_text}

-- the verb of a word that is one
abbrev verb_of : List ℕ → Verb
verb_of w =
    cond (bytes_eq w (codes "safest")) Safest
    (cond (bytes_eq w (codes "widest")) Widest
    (cond (bytes_eq w (codes "book")) Book
    (cond (bytes_eq w (codes "release")) Release
    (cond (bytes_eq w (codes "close")) Close
    (cond (bytes_eq w (codes "reopen")) Reopen
    (cond (bytes_eq w (codes "left")) Left
    (cond (bytes_eq w (codes "open")) Open
    (cond (bytes_eq w (codes "uses")) Uses
    (cond (bytes_eq w (codes "routes")) Routes Map)))))))))

verb_of_text : (v : Verb) → verb_of (verb_text v) ≡ v
verb_of_text Safest = refl
verb_of_text Widest = refl
verb_of_text Book = refl
verb_of_text Release = refl
verb_of_text Close = refl
verb_of_text Reopen = refl
verb_of_text Left = refl
verb_of_text Open = refl
verb_of_text Uses = refl
verb_of_text Routes = refl
verb_of_text Map = refl

pub verb_once : (v w : Verb) → verb_text v ≡ verb_text w → v ≡ w
verb_once v w e = sym (verb_of_text v) ∙ ap verb_of e ∙ verb_of_text w

abbrev mode_of : List ℕ → Mode
mode_of w = cond (bytes_eq w (codes "1+1")) OnePlusOne OneToOne

mode_of_text : (m : Mode) → mode_of (mode_text m) ≡ m
mode_of_text OnePlusOne = refl
mode_of_text OneToOne = refl

pub mode_once : (m n : Mode) → mode_text m ≡ mode_text n → m ≡ n
mode_once m n e = sym (mode_of_text m) ∙ ap mode_of e ∙ mode_of_text n
