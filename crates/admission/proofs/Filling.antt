-- Lists of the values of a function of the index.
use Rattle.std.proofs.Common.{◌≡◌, ℕ, ◌+◌, List, [], ◌∷◌, ◌++◌, sym, ap, ◌∙◌, arith}
use Rattle.std.proofs.lemmas.List.FromFn.{map-range_with_len_more}
use Rattle.admission.specs.Tables.{listed}

-- one more value at the end
pub listed_more : {X : Type 0} (f : ℕ → X) (i : ℕ) (xs ys : List X) (x : X) → xs ≡ listed i f → ys ≡ xs ++ x ∷ [] → x ≡ f i → ys ≡ listed (i + 1) f
listed_more f i xs ys x h p e = p ∙ ap (λ zs. zs ++ x ∷ []) h ∙ ap (λ y. listed i f ++ y ∷ []) e ∙ sym (map-range_with_len_more f 0 i i (omega arith))
