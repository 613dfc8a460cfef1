-- What holds at every moment of a batch, whatever the table; and why a job that preempts was not there before.
use Rattle.std.proofs.Common.{◌≡◌, ℕ, ◌+◌, ◌<◌, ◌≤◌, cond, ◌⊎◌, List, [], ◌∷◌, length, Some, None, Option, sym, refl, ap, ◌∙◌, inl, inr, arith}
use Rattle.std.proofs.lemmas.Bool.{cases_eq, cases_lt, eq-eqb, ne_eqb, lt-ltb, le-ltb}
use Rattle.admission.specs.declared.plan.AdoptedTask.{AdoptedTask}
use Rattle.schedule.specs.Batches.{Batch, Order, Opened, Released, Idled, MostUrgent, Worked, Run, opened, released, idled, worked}
use Rattle.schedule.specs.Batches.{task_at, released_at, preemption}
use Rattle.schedule.proofs.Sums.{at, at_same, at_place}
use Rattle.schedule.proofs.Releases.{Spaced, spaced_later, spaced_newest, spaced_next}

-- of two jobs not both go before the other
abbrev pub Asymmetric : Order → Type 0
Asymmetric Before = (a ra b rb : ℕ) → Before a ra b rb → Before b rb a ra → ⊥

-- The jobs released before this moment were there when a job was last chosen. Ticks that choose no job, and that the
-- job which worked last outlives, would leave it behind the clock; the steps here have none.
abbrev pub choice_of : Batch → ℕ
choice_of v = v.clock

-- What holds at every moment.
pub record Sound (tasks : List AdoptedTask) (Before : Order) (v : Batch) : Type 0 where
  -- only an unfinished job is flagged
  pub flags : (a : ℕ) → a < length tasks → v.flag a ≤ v.left a
  pub apart : (a : ℕ) → a < length tasks → Spaced (task_at tasks a).period (v.clock + (task_at tasks a).period) (v.releases a)
  pub unreleased : (a : ℕ) → a < length tasks → v.releases a ≡ [] → v.left a ≡ 0
  pub last_there : (l : ℕ) → v.last ≡ Some l → l < length tasks
  pub last_pending : (l : ℕ) → v.last ≡ Some l → 0 < v.left l
  pub last_early : (l : ℕ) → v.last ≡ Some l → released_at v l < choice_of v
  -- the job that worked last goes before all that were there when it was chosen
  pub last_first : (l : ℕ) → v.last ≡ Some l → (b : ℕ) → b < length tasks → (b ≡ l → ⊥) → 0 < v.left b
      → released_at v b < choice_of v → Before l (released_at v l) b (released_at v b)

-- the job that worked on the last tick is known, or there is none
last_cases : (o : Option ℕ) → (o ≡ None) ⊎ ((l : ℕ) × (o ≡ Some l))
last_cases None = inl refl
last_cases (Some l) = inr (l, refl)

-- two names of the place that worked last are one
some_same : {o : Option ℕ} {a b : ℕ} → o ≡ Some a → o ≡ Some b → a ≡ b
some_same p q = cc

-- where there is none, no place is it
none_some : {o : Option ℕ} {a : ℕ} → o ≡ None → o ≡ Some a → ⊥
none_some p q = let z : ◌≡◌ {A = ℕ} 0 1 = cc in omega arith

-- a place with a release is not one without
some_released : {rs ss : List ℕ} {r : ℕ} → rs ≡ r ∷ ss → rs ≡ [] → ⊥
some_released p q = let z : ◌≡◌ {A = ℕ} 0 1 = cc in omega arith

module _ {tasks : List AdoptedTask} {Before : Order} where
  -- no job is released later than now
  pub released_by : {v : Batch} → Sound tasks Before v → (a : ℕ) → a < length tasks → released_at v a ≤ v.clock
  released_by {v} so a l = spaced_newest (task_at tasks a).period v.clock (v.releases a) (so.apart a l)

  -- an opened batch is sound
  opened_sound : {v : Batch} → Opened tasks v → Sound tasks Before v
  opened_sound o = record {
    flags = λ a l. omega (arith, o.flag_is a l);
    apart = λ a l. rw (o.releases_are a l) tt;
    unreleased = λ a l _. o.left_is a l;
    last_there = λ l e. absurd (none_some o.last_is e);
    last_pending = λ l e. absurd (none_some o.last_is e);
    last_early = λ l e. absurd (none_some o.last_is e);
    last_first = λ l e. absurd (none_some o.last_is e);
  }

  -- an idle tick keeps a batch sound
  idled_sound : {v w : Batch} → Sound tasks Before v → Idled tasks v w → Sound tasks Before w
  idled_sound {v} so st = record {
    flags = λ a l. omega (arith, so.flags a l, st.flag_same a l, st.left_same a l);
    apart = λ a l. rw (st.releases_same a l) (spaced_later _ _ _ (v.releases a) (omega (arith, st.clock_is)) (so.apart a l));
    unreleased = λ a l _. st.left_same a l ∙ st.none_pending a l;
    last_there = λ l e. absurd (none_some st.last_is e);
    last_pending = λ l e. absurd (none_some st.last_is e);
    last_early = λ l e. absurd (none_some st.last_is e);
    last_first = λ l e. absurd (none_some st.last_is e);
  }

  module _ {a : ℕ} {v w : Batch} (so : Sound tasks Before v) (st : Released tasks a v w) where
    -- the job that worked last did so before the release
    last_was : {l : ℕ} → w.last ≡ Some l → v.last ≡ Some l
    last_was e = sym st.last_is ∙ e

    -- so its place is one of the table
    last_there : {l : ℕ} → w.last ≡ Some l → l < length tasks
    last_there {l} e = so.last_there l (last_was e)

    -- and not the one released, since that has finished
    last_other : {l : ℕ} → w.last ≡ Some l → l ≡ a → ⊥
    last_other {l} e z = absurd (omega (arith, so.last_pending l (last_was e), at_place (λ x. v.left x ≡ 0) z st.finished))

    -- a release keeps a batch sound
    released_sound : Sound tasks Before w
    released_sound = record {
      flags = λ b l.
          elim (cases_eq b a) [
            | inl z ↦ at_place (λ x. w.flag x ≤ w.left x) z (omega (arith, st.flag_is))
            | inr d ↦ omega (arith, so.flags b l, st.flag_same b l d, st.left_same b l d)
          ];
      apart = λ b l.
          elim (cases_eq b a) [
            | inl z ↦
                at_place (λ x. Spaced (task_at tasks x).period (w.clock + (task_at tasks x).period) (w.releases x)) z
                (rw st.releases_are
                (omega (arith, st.clock_is), spaced_next _ _ _ (v.releases a) st.spaced (so.apart a st.there)))
            | inr d ↦ rw (st.releases_same b l d, st.clock_is) (so.apart b l)
          ];
      unreleased = λ b l e.
          elim (cases_eq b a) [
            | inl z ↦ absurd (some_released (at_place (λ x. w.releases x ≡ v.clock ∷ v.releases a) z st.releases_are) e)
            | inr d ↦ st.left_same b l d ∙ so.unreleased b l (rw (st.releases_same b l d) at e)
          ];
      last_there = λ l e. last_there e;
      last_pending = λ l e. rw (st.left_same l (last_there e) (last_other e)) (so.last_pending l (last_was e));
      last_early = λ l e. rw (st.releases_same l (last_there e) (last_other e), st.clock_is) (so.last_early l (last_was e));
      last_first = λ l e b lb d m early.
          elim (cases_eq b a) [
            | inl z ↦
                let now : released_at w b ≡ w.clock =
                at_place (λ x. released_at w x ≡ w.clock) z (rw st.releases_are (sym st.clock_is)) in
                absurd (omega arith)
            | inr z ↦
                rw (st.releases_same l (last_there e) (last_other e), st.releases_same b lb z)
                (so.last_first l (last_was e) b lb d (rw (st.left_same b lb z) at m)
                (rw (st.releases_same b lb z, st.clock_is) at early))
          ];
    }

  module _ {attempt k retry : ℕ} {v w : Batch} (so : Sound tasks Before v) (mu : MostUrgent tasks Before k v)
      (st : Worked attempt tasks k retry v w) where
    -- a tick makes no job pending
    pub was_pending : (b : ℕ) → b < length tasks → 0 < w.left b → 0 < v.left b
    was_pending b l m =
        elim (cases_eq b k) [
          | inl e ↦ at_place (λ x. 0 < v.left x) e mu.pending
          | inr d ↦ rw (st.left_same b l d) at m
        ]

    -- the job that worked last is now that of k, unless it has finished
    now_last : (l : ℕ) → w.last ≡ Some l → (l ≡ k) × (0 < w.left k)
    now_last l e =
        elim (cases_lt 0 (w.left k)) [
          | inl m ↦ (some_same e (st.last_is ∙ ap (λ b. cond b (Some k) None) (lt-ltb 0 (w.left k) m)), m)
          | inr m ↦ absurd (none_some (st.last_is ∙ ap (λ b. cond b (Some k) None) (le-ltb 0 (w.left k) m)) e)
        ]

    -- every job was released before the tick was over
    now_early : (b : ℕ) → b < length tasks → released_at w b < w.clock
    now_early b l = rw (st.releases_same b l) (omega (arith, released_by so b l, st.clock_is))

    -- the flag of a job that does not work stays, or is that of the job that worked last, which is unfinished
    now_flags : (b : ℕ) → b < length tasks → (b ≡ k → ⊥) → (v.last ≡ None) ⊎ ((l : ℕ) × (v.last ≡ Some l)) → w.flag b ≤ w.left b
    now_flags b l d (inl e) = omega (arith, so.flags b l, st.flag_same b l d (none_some e), st.left_same b l d)
    now_flags b l d (inr (p, e)) =
        elim (cases_eq b p) [
          | inl z ↦
              omega (
                arith,
                at_place (λ x. w.flag x ≤ 1) z (st.flag_last p e),
                at_place (λ x. 0 < v.left x) z (so.last_pending p e),
                st.left_same b l d,
              )
          | inr z ↦ omega (arith, so.flags b l, st.flag_same b l d (λ y. z (some_same y e)), st.left_same b l d)
        ]

    -- a working tick keeps a batch sound
    worked_sound : Sound tasks Before w
    worked_sound = record {
      flags = λ b l.
          elim (cases_eq b k) [
            | inl e ↦ at_place (λ x. w.flag x ≤ w.left x) e st.flag_fits
            | inr d ↦ now_flags b l d (last_cases v.last)
          ];
      apart = λ b l. rw (st.releases_same b l) (spaced_later _ _ _ (v.releases b) (omega (arith, st.clock_is)) (so.apart b l));
      unreleased = λ b l e.
          elim (cases_lt 0 (w.left b)) [
            | inl m ↦ absurd (omega (arith, was_pending b l m, so.unreleased b l (rw (st.releases_same b l) at e)))
            | inr m ↦ omega arith
          ];
      last_there = λ l e. at_place (λ x. x < length tasks) (now_last l e).0 mu.there;
      last_pending = λ l e. at_place (λ x. 0 < w.left x) (now_last l e).0 (now_last l e).1;
      last_early = λ l e. at_place (λ x. released_at w x < w.clock) (now_last l e).0 (now_early k mu.there);
      last_first = λ l e b lb d m early.
          at_place (λ x. Before x (released_at w x) b (released_at w b)) (now_last l e).0
          (rw (st.releases_same k mu.there, st.releases_same b lb)
          (mu.first b lb (λ y. d (y ∙ sym (now_last l e).0)) (was_pending b lb m)));
    }

  -- every run is sound
  pub run_sound : {attempt : ℕ} {v : Batch} → Run attempt tasks Before v → Sound tasks Before v
  run_sound (opened o) = opened_sound o
  run_sound (released r st) = released_sound (run_sound r) st
  run_sound (idled r st) = idled_sound (run_sound r) st
  run_sound (worked r mu st) = worked_sound (run_sound r) mu st

-- Whom a working tick preempts, if anybody (the number is 1 then, else 0): nobody else can become flagged.
pub record Preempts (tasks : List AdoptedTask) (k : ℕ) (v w : Batch) : Type 0 where
  pub victim : ℕ
  pub number : ℕ
  pub number_is : preemption v.last k ≡ number
  pub number_small : number ≤ 1
  pub flags_grow : (b : ℕ) → b < length tasks → (b ≡ k → ⊥) → w.flag b ≤ v.flag b + at victim number b
  pub was_last : 0 < number → v.last ≡ Some victim
  pub is_other : 0 < number → victim ≡ k → ⊥

module _ {attempt : ℕ} {tasks : List AdoptedTask} {k retry : ℕ} {v w : Batch} (st : Worked attempt tasks k retry v w) where
  -- nobody is preempted if no other job worked last
  preempts_none : preemption v.last k ≡ 0 → ((b : ℕ) → (b ≡ k → ⊥) → v.last ≡ Some b → ⊥) → Preempts tasks k v w
  preempts_none e spared = record {
    victim = k;
    number = 0;
    number_is = e;
    number_small = omega arith;
    flags_grow = λ b l d. omega (arith, st.flag_same b l d (spared b d));
    was_last = λ m. absurd (omega arith);
    is_other = λ m. absurd (omega arith);
  }

  -- the job that worked last is, if it is another
  preempts_one : (l : ℕ) → v.last ≡ Some l → (l ≡ k → ⊥) → Preempts tasks k v w
  preempts_one l e other = record {
    victim = l;
    number = 1;
    number_is = ap (λ o. preemption o k) e ∙ ap (λ x. cond x 0 1) (ne_eqb l k other);
    number_small = omega arith;
    flags_grow = λ b h d.
        elim (cases_eq b l) [
          | inl y ↦ at_place (λ x. w.flag x ≤ v.flag x + at l 1 x) y (omega (arith, at_same l 1, st.flag_last l e))
          | inr y ↦ omega (arith, st.flag_same b h d (λ q. y (some_same q e)))
        ];
    was_last = λ _. e;
    is_other = λ _. other;
  }

  -- every working tick preempts nobody, or one job
  pub preempts : Preempts tasks k v w
  preempts =
      elim (last_cases v.last) [
        | inl e ↦ preempts_none (ap (λ o. preemption o k) e) (λ b d z. none_some e z)
        | inr (l, e) ↦
            elim (cases_eq l k) [
              | inl z ↦
                  preempts_none (ap (λ o. preemption o k) e ∙ ap (λ x. cond x 0 1) (eq-eqb l k z)) (λ b d y. d (some_same y e ∙ z))
              | inr z ↦ preempts_one l e z
            ]
      ]

module _ {tasks : List AdoptedTask} {Before : Order} {k l : ℕ} {v : Batch}
    (so : Sound tasks Before v) (mu : MostUrgent tasks Before k v) (was_last : v.last ≡ Some l) (other : l ≡ k → ⊥) where
  -- the job that preempts goes before the one that it preempts
  pub preempts_first : Before k (released_at v k) l (released_at v l)
  preempts_first = mu.first l (so.last_there l was_last) other (so.last_pending l was_last)

  -- and it was released after the last choice, or it would have been chosen then
  pub preempts_new : Asymmetric Before → choice_of v ≤ released_at v k
  preempts_new asym =
      elim (cases_lt (released_at v k) (choice_of v)) [
        | inl e ↦ absurd (asym _ _ _ _ preempts_first (so.last_first l was_last k mu.there (λ z. other (sym z)) mu.pending e))
        | inr e ↦ e
      ]
