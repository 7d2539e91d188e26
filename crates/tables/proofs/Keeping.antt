-- What is added and struck out leaves the tables those of a book over the same network. Assumes nothing.
use Rattle.std.proofs.Common.{◌≡◌, ℕ, ◌<◌, ◌≤◌, List, [], ◌∷◌, ◌++◌, map, length, get_or, vec_items, vec_len, sum_by, sym, refl, ap, ◌∙◌, subst, arith}
use Rattle.std.proofs.lemmas.List.{map-append}
use Rattle.std.proofs.lemmas.List.Recursion.{is_sum_by}
use Rattle.std.proofs.lemmas.List.Sums.{sum_by-append, sum_by-remove}
use Rattle.std.specs.List.{remove, take-map, drop-map}
use Rattle.network.specs.Network.{Network, Proper}
use Rattle.promise.specs.Ledger as ledger
use Rattle.promise.specs.Ledger.{taken}
use Rattle.promise.specs.Promise.{Stands, feed_number, notice_number}
use Rattle.tables.specs.declared.rows.Tables.{Tables}
use Rattle.tables.specs.Standing.{Apart, Keeps, idle, ledger_of, left_at, taken_by, feed_at, no_feed, TakenOff, GivenBack}
use Rattle.tables.proofs.Numbers.{apart_push, apart_removed}

pub map_removed : {A B : Type 0} (f : A → B) (xs : List A) (i : ℕ) → map f (remove xs i) ≡ remove (map f xs) i
map_removed f xs i = simp (map-append, take-map, drop-map)

-- what the feeds take of a circuit, as a sum
taken_sum : (fs : List ledger.Feed) (c : ℕ) → taken fs c ≡ sum_by (λ f. taken_by f c) fs
taken_sum fs c = is_sum_by (λ gs. taken gs c) (λ f. taken_by f c) refl (λ _ _. refl) fs

module _ (n : Network) (old new : Tables) (long : vec_len new.circuits ≡ vec_len old.circuits) (keeps : Keeps n old) where
  pub keeps_added : (f : ledger.Feed) → (ledger_of new).feeds ≡ (ledger_of old).feeds ++ f ∷ [] → (ledger_of new).notices ≡ (ledger_of old).notices
      → TakenOff f old new
      → (Stands feed_number f.number (ledger_of old).feeds → ⊥) → ((c : ℕ) → c < length n.circuits → taken_by f c ≤ left_at old c) → Keeps n new
  keeps_added f feeds notices left none fits = record {
    long = long ∙ keeps.long;
    balanced = λ c h.
        let within : c < vec_len old.circuits = omega (arith, keeps.long) in
        let balanced = keeps.balanced c h in
        let pushed = sum_by-append (λ g. taken_by g c) (ledger_of old).feeds (f ∷ []) in
        omega (arith, left c within, fits c h, taken_sum (ledger_of new).feeds c, taken_sum (ledger_of old).feeds c, ap (sum_by (λ g. taken_by g c)) feeds);
    feeds_apart = subst (Apart feed_number) (sym feeds) (apart_push feed_number (ledger_of old).feeds f keeps.feeds_apart none);
    notices_apart = subst (Apart notice_number) (sym notices) keeps.notices_apart;
  }

  pub keeps_struck : Proper n → (i : ℕ) → i < length (ledger_of old).feeds → (ledger_of new).feeds ≡ remove (ledger_of old).feeds i → (ledger_of new).notices ≡ (ledger_of old).notices
      → GivenBack (feed_at old i) old new
      → Keeps n new
  keeps_struck proper i here feeds notices left = record {
    long = long ∙ keeps.long;
    balanced = λ c h.
        let within : c < vec_len old.circuits = omega (arith, keeps.long) in
        let balanced = keeps.balanced c h in
        let most = (proper.each c h).most_bandwidth in
        let without = sum_by-remove (λ g. taken_by g c) (ledger_of old).feeds i no_feed here in
        omega (arith, left c within, taken_sum (ledger_of new).feeds c, taken_sum (ledger_of old).feeds c, ap (sum_by (λ g. taken_by g c)) feeds);
    feeds_apart = subst (Apart feed_number) (sym feeds) (apart_removed feed_number (ledger_of old).feeds i keeps.feeds_apart);
    notices_apart = subst (Apart notice_number) (sym notices) keeps.notices_apart;
  }

module _ (n : Network) (old new : Tables) (circuits : new.circuits ≡ old.circuits) (feeds : (ledger_of new).feeds ≡ (ledger_of old).feeds) (keeps : Keeps n old) where
  -- the feeds and what is left are as they were
  pub keeps_notices : Apart notice_number (ledger_of new).notices → Keeps n new
  keeps_notices apart = record {
    long = ap vec_len circuits ∙ keeps.long;
    balanced = λ c h.
        let left : left_at new c ≡ left_at old c = ap (λ v. (get_or (vec_items v) c idle).left) circuits in
        let balanced = keeps.balanced c h in
        let same = ap (λ fs. taken fs c) feeds in
        omega arith;
    feeds_apart = subst (Apart feed_number) (sym feeds) keeps.feeds_apart;
    notices_apart = apart;
  }
