-- A row of the tables, and the ledger's entry at the same place. Assumes nothing.
use Rattle.std.proofs.Common.{◌≡◌, ℕ, ◌<◌, length, get_or, map, Vec, vec_items, vec_len, sym, ap, ◌∙◌, arith}
use Rattle.std.specs.declared.alloc.Global.{Global}
use Rattle.std.proofs.lemmas.List.{get_or-map, length-map}

module _ {A B : Type 0} (entry : A → B) (rows : Vec A Global) where
  pub entries_length : length (map entry (vec_items rows)) ≡ vec_len rows
  entries_length = length-map (vec_items rows) entry ∙ sym rows.ok.0

  pub entry_read : (i : ℕ) (x : A) (d : B) → i < vec_len rows → x ≡ get_or (vec_items rows) i x → get_or (map entry (vec_items rows)) i d ≡ entry x
  entry_read i x d h e =
      let long = rows.ok in
      get_or-map entry (vec_items rows) i x d (omega arith) ∙ ap entry (sym e)
