-- The tokens held, as the list of which are good.
use Rattle.std.proofs.Common.{◌≡◌, ℕ, zero, suc, ◌+◌, ◌<◌, Bool, true, false, cond, ltb, List, [], ◌∷◌, ◌++◌, length, get_or, take, drop, sym, refl, ap, ◌∙◌, arith}
use Rattle.std.proofs.lemmas.Bool.{lt-ltb}
use Rattle.std.proofs.lemmas.List.{map_push, map-append, take-map, drop-map, length-map}
use Rattle.controller.specs.declared.token.BatchToken.{BatchToken}
use Rattle.controller.specs.Machines.{Machine, closed}
use Rattle.runs.specs.Entries.{goods, good_in, is_good, without}

-- the token at a place is handed in
pub token_gone : (ts us : List BatchToken) (i : ℕ) → i < length ts → us ≡ take i ts ++ drop (i + 1) ts → goods us ≡ cond (ltb i (length (goods ts))) (without (goods ts) i) (goods ts)
token_gone ts us i h e =
    let there : ltb i (length (goods ts)) ≡ true = lt-ltb i (length (goods ts)) (omega (arith, length-map ts is_good)) in
    rw (there, e, take-map is_good i ts, drop-map is_good (i + 1) ts) (map-append is_good (take i ts) (drop (i + 1) ts))

-- how many are good: with one more, and without one
pub good_push : (hs : List Bool) (good : Bool) → good_in (hs ++ good ∷ []) ≡ good_in hs + cond good 1 0
good_push [] good = omega arith
good_push (h ∷ hs) good = omega (arith, good_push hs good)

pub good_without : (hs : List Bool) (i : ℕ) → i < length hs → good_in hs ≡ cond (get_or hs i false) 1 0 + good_in (without hs i)
good_without [] i h = absurd (omega arith)
good_without (h ∷ hs) zero l = refl
good_without (h ∷ hs) (suc i) l =
    let n : suc i + 1 ≡ suc (i + 1) = omega arith in
    let e : good_in (without (h ∷ hs) (suc i)) ≡ cond h 1 0 + good_in (without hs i) = ap (λ (k : ℕ). good_in (h ∷ take i hs ++ drop k (h ∷ hs))) n in
    omega (arith, e, good_without hs i (omega arith))

-- handing in one token and then others is handing in all
pub closed_more : (m : Machine) (hs : List Bool) (good : Bool) → closed (closed m good) (ltb 0 (good_in hs)) ≡ closed m (ltb 0 (good_in (hs ++ good ∷ [])))
closed_more m hs true =
    let e : ltb 0 (good_in (hs ++ true ∷ [])) ≡ true = lt-ltb 0 (good_in (hs ++ true ∷ [])) (omega (arith, good_push hs true)) in
    none_twice (ltb 0 (good_in hs)) ∙ ap (λ (b : Bool). closed m b) (sym e)
  where
    none_twice : (b : Bool) → closed (closed m true) b ≡ closed m true
    none_twice true = refl
    none_twice false = refl
closed_more m hs false = ap (λ (n : ℕ). closed m (ltb 0 n)) (sym (good_push hs false ∙ omega arith))

-- one token of those left is handed in
pub finish_more : (m n : Machine) (ts us : List BatchToken) (t : BatchToken) → ts ≡ us ++ t ∷ [] → n ≡ closed m t.good → closed n (ltb 0 (good_in (goods us))) ≡ closed m (ltb 0 (good_in (goods ts)))
finish_more m n ts us t e f =
    rw (f, e, map_push is_good us t) (closed_more m (goods us) t.good)
