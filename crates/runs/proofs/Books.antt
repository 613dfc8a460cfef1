-- The jobs of a batch as the ledger lists them, place by place.
use Rattle.std.proofs.Common.{◌≡◌, ℕ, zero, suc, ◌+◌, ◌<◌, ◌≤◌, true, false, cond, not, eqb, List, [], ◌∷◌, length, Some, None, Option, unwrap_or, sym, refl, ap, ◌∙◌, subst, inl, inr, arith}
use Rattle.std.proofs.lemmas.Bool.{cases_Bool, cases_eq, eq-eqb, ne_eqb, eqb-true, eqb-false, and_right}
use Rattle.admission.specs.declared.plan.Step.{Step}
use Rattle.admission.specs.Search.{sum_below}
use Rattle.admission.proofs.Ranges.{sum_add, sum_zero}
use Rattle.schedule.specs.Batches.{newest, preemption}
use Rattle.runs.specs.Ledger.{Booked, is_done, left_of, release_of, with_left, finished_in, unfinished, preempts}
use Rattle.runs.specs.Laws.{EachJob}

-- a fact of every place, from one and the others
pub each_place : (place : ℕ) (P : ℕ → Type 0) → P place → ((b : ℕ) → (b ≡ place → ⊥) → P b) → (b : ℕ) → P b
each_place place P here other b = elim (cases_eq b place) [ inl e ↦ subst P (sym e) here | inr d ↦ other b d ]

-- the releases of a place, newest first
abbrev pub releases_at : ℕ → List Booked → List ℕ
releases_at place [] = []
releases_at place (job ∷ jobs) = cond (eqb job.place place) (job.release ∷ releases_at place jobs) (releases_at place jobs)

-- the newest of them is the release of the latest job
pub newest_release : (place : ℕ) (jobs : List Booked) → newest (releases_at place jobs) ≡ unwrap_or (release_of place jobs) 0
newest_release place [] = refl
newest_release place (job ∷ jobs) =
    elim (cases_Bool (eqb job.place place)) [ inl e ↦ rw e refl | inr e ↦ rw e (newest_release place jobs) ]

pub no_release : (place : ℕ) (jobs : List Booked) → release_of place jobs ≡ None → releases_at place jobs ≡ []
no_release place [] h = refl
no_release place (job ∷ jobs) h =
    elim (cases_Bool (eqb job.place place)) [
      | inl e ↦ (let g : Some job.release ≡ None = rw e at h in cc)
      | inr e ↦ rw e (no_release place jobs (rw e at h))
    ]

-- a job with something left was released
pub left_released : (place : ℕ) (jobs : List Booked) → is_done (left_of place jobs) ≡ false → (r : ℕ) × (release_of place jobs ≡ Some r)
left_released place [] h = cc
left_released place (job ∷ jobs) h =
    elim (cases_Bool (eqb job.place place)) [
      | inl e ↦ (job.release, rw e refl)
      | inr e ↦ let i = left_released place jobs (rw e at h) in (i.0, rw e i.1)
    ]

-- what a change of the latest job of a place leaves
module _ (place : ℕ) (left : List Step) where
  pub left_here : (jobs : List Booked) (r : ℕ) → release_of place jobs ≡ Some r → left_of place (with_left place left jobs) ≡ left
  left_here [] r h = cc
  left_here (job ∷ jobs) r h =
      elim (cases_Bool (eqb job.place place)) [
        | inl e ↦ rw (e, e) refl
        | inr e ↦ rw (e, e) (left_here jobs r (rw e at h))
      ]

  pub left_other : (b : ℕ) (jobs : List Booked) → (b ≡ place → ⊥) → left_of b (with_left place left jobs) ≡ left_of b jobs
  left_other b [] d = refl
  left_other b (job ∷ jobs) d =
      elim (cases_Bool (eqb job.place place)) [
        | inl e ↦
            let n : eqb job.place b ≡ false = ne_eqb job.place b (λ i. d (sym i ∙ eqb-true job.place place e)) in
            rw (e, n) refl
        | inr e ↦ rw (e, left_other b jobs d) refl
      ]

  pub releases_kept : (b : ℕ) (jobs : List Booked) → releases_at b (with_left place left jobs) ≡ releases_at b jobs
  releases_kept b [] = refl
  releases_kept b (job ∷ jobs) =
      elim (cases_Bool (eqb job.place place)) [
        | inl e ↦ rw e refl
        | inr e ↦ rw (e, releases_kept b jobs) refl
      ]

  pub release_kept : (b : ℕ) (jobs : List Booked) → release_of b (with_left place left jobs) ≡ release_of b jobs
  release_kept b [] = refl
  release_kept b (job ∷ jobs) =
      elim (cases_Bool (eqb job.place place)) [
        | inl e ↦ rw e refl
        | inr e ↦ rw (e, release_kept b jobs) refl
      ]

  pub length_kept : (jobs : List Booked) → length (with_left place left jobs) ≡ length jobs
  length_kept [] = refl
  length_kept (job ∷ jobs) =
      elim (cases_Bool (eqb job.place place)) [ inl e ↦ rw e refl | inr e ↦ rw (e, length_kept jobs) refl ]

  -- a pending job that has so much left afterwards has finished or not
  pub finished_more : (jobs : List Booked) → is_done (left_of place jobs) ≡ false → finished_in (with_left place left jobs) ≡ finished_in jobs + cond (is_done left) 1 0
  finished_more [] h = cc
  finished_more (job ∷ jobs) h =
      elim (cases_Bool (eqb job.place place)) [
        | inl e ↦ let n : is_done job.left ≡ false = rw e at h in rw (e, n) (omega arith)
        | inr e ↦ rw e (omega (arith, finished_more jobs (rw e at h)))
      ]

  -- the job that worked is the latest of its place
  pub unfinished_here : (jobs : List Booked) (r : ℕ) → release_of place jobs ≡ Some r → unfinished place r (with_left place left jobs) ≡ not (is_done left)
  unfinished_here [] r h = cc
  unfinished_here (job ∷ jobs) r h =
      elim (cases_Bool (eqb job.place place)) [
        | inl e ↦
            let s : job.release ≡ r = (let g : Some job.release ≡ Some r = rw e at h in cc) in
            rw (e, e, eq-eqb job.release r s) refl
        | inr e ↦ rw (e, e) (unfinished_here jobs r (rw e at h))
      ]

-- every job but the latest of its place has finished
abbrev pub Latest : List Booked → Type 0
Latest [] = Unit {0}
Latest (job ∷ jobs) = (is_done (left_of job.place jobs) ≡ true) × Latest jobs

pub latest_kept : (place : ℕ) (left : List Step) (jobs : List Booked) → Latest jobs → Latest (with_left place left jobs)
latest_kept place left [] h = tt
latest_kept place left (job ∷ jobs) h =
    elim (cases_Bool (eqb job.place place)) [
      | inl e ↦ rw e h
      | inr e ↦ rw e (ap is_done (left_other place left job.place jobs (eqb-false job.place place e)) ∙ h.0, latest_kept place left jobs h.1)
    ]

pub each_kept : (Fact : ℕ → ℕ → Type 0) (place : ℕ) (left : List Step) (jobs : List Booked) → EachJob (λ job. Fact job.place job.release) jobs → EachJob (λ job. Fact job.place job.release) (with_left place left jobs)
each_kept Fact place left [] h = tt
each_kept Fact place left (job ∷ jobs) h =
    elim (cases_Bool (eqb job.place place)) [ inl e ↦ rw e h | inr e ↦ rw e (h.0, each_kept Fact place left jobs h.1) ]

pub each_more : (Fact Other : Booked → Type 0) (jobs : List Booked) → ((job : Booked) → Fact job → Other job) → EachJob Fact jobs → EachJob Other jobs
each_more Fact Other [] f h = tt
each_more Fact Other (job ∷ jobs) f h = (f job h.0, each_more Fact Other jobs f h.1)

pub each_release : (most place : ℕ) (jobs : List Booked) → EachJob (λ job. job.release ≤ most) jobs → (r : ℕ) → release_of place jobs ≡ Some r → r ≤ most
each_release most place [] h r e = cc
each_release most place (job ∷ jobs) h r e =
    elim (cases_Bool (eqb job.place place)) [
      | inl i ↦ let s : job.release ≡ r = (let g : Some job.release ≡ Some r = rw i at e in cc) in omega (arith, h.0)
      | inr i ↦ each_release most place jobs h.1 r (rw i at e)
    ]

-- a job of a later release is another one
pub unfinished_new : (place release : ℕ) (job : Booked) (jobs : List Booked) → (job.release ≡ release → ⊥) → unfinished place release (job ∷ jobs) ≡ unfinished place release jobs
unfinished_new place release job jobs d = rw (and_right (eqb job.place place) (eqb job.release release) (ne_eqb job.release release d)) refl

-- the place whose unfinished job worked on the tick before
abbrev pub last_of : Option (ℕ × ℕ) → List Booked → Option ℕ
last_of None jobs = None
last_of (Some worker) jobs = cond (unfinished worker.0 worker.1 jobs) (Some worker.0) None

pub preempts_is : (before : Option (ℕ × ℕ)) (place : ℕ) (jobs : List Booked) → cond (preempts before place jobs) 1 0 ≡ preemption (last_of before jobs) place
preempts_is None place jobs = refl
preempts_is (Some worker) place jobs =
    elim (cases_Bool (unfinished worker.0 worker.1 jobs)) [
      | inl u ↦ elim (cases_Bool (eqb worker.0 place)) [ inl e ↦ rw (u, e) refl | inr e ↦ rw (u, e) refl ]
      | inr u ↦ elim (cases_Bool (eqb worker.0 place)) [ inl e ↦ rw (u, e) refl | inr e ↦ rw (u, e) refl ]
    ]

-- a sum over the jobs, and over those of a place
abbrev pub total_by : (Booked → ℕ) → List Booked → ℕ
total_by f [] = 0
total_by f (job ∷ jobs) = f job + total_by f jobs

abbrev pub total_at : (Booked → ℕ) → ℕ → List Booked → ℕ
total_at f place [] = 0
total_at f place (job ∷ jobs) = cond (eqb job.place place) (f job) 0 + total_at f place jobs

-- one term among the places
only : (n k v : ℕ) → k < n → sum_below n (λ a. cond (eqb k a) v 0) ≡ v
only zero k v l = absurd (omega arith)
only (suc n) k v l =
    elim (cases_eq k n) [
      | inl e ↦
          let z = sum_zero n (λ a. cond (eqb k a) v 0) (λ a b. rw (ne_eqb k a (λ i. (let c : ⊥ = omega arith in c))) refl) in
          rw (eq-eqb k n e) (omega (arith, z))
      | inr d ↦ rw (ne_eqb k n d) (omega (arith, only n k v (omega arith)))
    ]

pub total_places : (f : Booked → ℕ) (n : ℕ) (jobs : List Booked) → EachJob (λ job. job.place < n) jobs → total_by f jobs ≡ sum_below n (λ a. total_at f a jobs)
total_places f n [] h = sym (sum_zero n (λ a. 0) (λ a l. refl))
total_places f n (job ∷ jobs) h =
    let s = sum_add n (λ a. cond (eqb job.place a) (f job) 0) (λ a. total_at f a jobs) in
    omega (arith, s, only n job.place (f job) h.0, total_places f n jobs h.1)
