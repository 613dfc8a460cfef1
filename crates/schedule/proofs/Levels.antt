-- The potential of a level of urgency: the ticks that its jobs still owe, with the attempts that they may have to make
-- again, and the time since a moment q, are covered by what was released since q.
use Rattle.std.proofs.Common.{◌≡◌, ℕ, ◌+◌, ◌*◌, ◌<◌, ◌≤◌, Bool, true, false, cond, ◌&&◌, ltb, leb, ◌⊎◌, List, length, Some, sym, ◌∙◌, inl, inr, mul-le-mul_right, mul-le-mul_left, arith}
use Rattle.std.proofs.lemmas.Bool.{cases_eq, cases_Bool, cases_lt, cond-true, cond-false, both_ways, and_parts, and_from, and_left, and_right, ltb-true, leb-true, lt-ltb, le-ltb, le-leb}
use Rattle.admission.specs.declared.plan.AdoptedTask.{AdoptedTask}
use Rattle.admission.specs.Search.{sum_below}
use Rattle.schedule.specs.Batches.{Batch, Order, Released, MostUrgent, Worked, Run, opened, released, idled, worked}
use Rattle.schedule.specs.Batches.{task_at, released_at}
use Rattle.schedule.proofs.Sums.{at, at_same, at_other, at_place, sum_le, sum_add, sum_zero, sum_step, sum_part}
use Rattle.schedule.proofs.Releases.{count, Spaced, count_yes, count_no, count_more, count_gains}
use Rattle.schedule.proofs.Moments.{Asymmetric, Sound, choice_of, released_by, run_sound, was_pending}
use Rattle.schedule.proofs.Moments.{Preempts, preempts, preempts_first, preempts_new}

-- A level of urgency. A job is given by its place and its release.
pub record Level (attempt : ℕ) (Before : Order) : Type 0 where
  -- the jobs of the level, and those of them that may preempt another of it
  pub member : ℕ → ℕ → Bool
  pub spoiler : ℕ → ℕ → Bool
  -- what a flagged job of a place may have to do again
  pub weight : ℕ → ℕ
  -- what a release of a place is charged for the attempt that it may spoil
  pub charge : ℕ → ℕ
  -- the ticks that may be lost while a job of the level is pending
  pub lost : ℕ
  pub within : (a r : ℕ) → spoiler a r ≡ true → member a r ≡ true
  -- a job that goes before one of the level may preempt it, and its charge pays for that
  pub above : (a ra b rb : ℕ) → Before a ra b rb → member b rb ≡ true → spoiler a ra ≡ true
  pub pays : (a ra b rb : ℕ) → Before a ra b rb → member b rb ≡ true → weight b ≤ charge a
  -- a retry asks for no more than the weight
  pub weighs : (a : ℕ) → attempt ≤ weight a

-- a release of the level at q or later
abbrev pub since : (ℕ → ℕ → Bool) → ℕ → ℕ → ℕ → Bool
since member q a r = member a r && leb q r

-- what it means to pass: the count of work goes by it
pub since_parts : (member : ℕ → ℕ → Bool) (q a r : ℕ) → since member q a r ≡ true → (member a r ≡ true) × (q ≤ r)
since_parts member q a r e = let y = and_parts (member a r) (leb q r) e in (y.0, leb-true q r y.1)

-- a release after q and before b that may preempt
abbrev pub between : (ℕ → ℕ → Bool) → ℕ → ℕ → ℕ → ℕ → Bool
between spoiler q b a r = spoiler a r && (ltb q r && ltb r b)

-- what it means to pass: the count of charges goes by it
pub between_parts : (spoiler : ℕ → ℕ → Bool) (q b a r : ℕ) → between spoiler q b a r ≡ true
    → (spoiler a r ≡ true) × (q < r) × (r < b)
between_parts spoiler q b a r e =
    let y = and_parts (spoiler a r) (ltb q r && ltb r b) e in
    let z = and_parts (ltb q r) (ltb r b) y.1 in
    (y.0, ltb-true q r z.0, ltb-true r b z.1)

-- a later end lets more releases through
between_later : (spoiler : ℕ → ℕ → Bool) (q a : ℕ) {b c : ℕ} → b ≤ c → (r : ℕ)
    → between spoiler q b a r ≡ true → between spoiler q c a r ≡ true
between_later spoiler q a {b} {c} h r e =
    let y = between_parts spoiler q b a r e in
    and_from _ _ y.0 (and_from _ _ (lt-ltb q r y.1) (lt-ltb r c (omega (arith, y.2))))

-- every release came by the clock c
abbrev pub ReleasedBy : List AdoptedTask → ℕ → Batch → Type 0
ReleasedBy tasks c v = (a : ℕ) → a < length tasks → Spaced (task_at tasks a).period (c + (task_at tasks a).period) (v.releases a)

module _ {attempt : ℕ} (tasks : List AdoptedTask) {Before : Order} (L : Level attempt Before) where
  -- what the latest job of a place owes: its ticks, and if it is flagged its attempt again
  abbrev pub owes : Batch → ℕ → ℕ
  owes v a = cond (L.member a (released_at v a)) (v.left a + v.flag a * L.weight a) 0

  -- the work that the releases of a place since q have brought
  abbrev pub brought : ℕ → Batch → ℕ → ℕ
  brought q v a = count (since L.member q a) (v.releases a) * (task_at tasks a).cost

  -- the charge of the releases of a place that may have spoiled an attempt since q
  abbrev pub spoils : ℕ → Batch → ℕ → ℕ
  spoils q v a = count (between L.spoiler q (choice_of v) a) (v.releases a) * L.charge a

  -- both together
  abbrev pub granted : ℕ → Batch → ℕ → ℕ
  granted q v a = brought q v a + spoils q v a

  -- what is granted is bounded by the work and the charges that a test counts
  pub granted_at_most : (q : ℕ) (v : Batch) (work charges : ℕ → ℕ)
      → ((a : ℕ) → a < length tasks → brought q v a ≤ work a) → ((a : ℕ) → a < length tasks → spoils q v a ≤ charges a)
      → sum_below (length tasks) (granted q v) ≤ sum_below (length tasks) work + sum_below (length tasks) charges
  granted_at_most q v work charges h i =
      omega (
        arith,
        sum_add (length tasks) (brought q v) (spoils q v),
        sum_le (length tasks) (brought q v) work h,
        sum_le (length tasks) (spoils q v) charges i,
      )

  -- The level invariant.
  pub record Covered (q : ℕ) (v : Batch) : Type 0 where
    pub behind : q ≤ v.clock
    -- a pending job of the level was released at q or later
    pub late : (a : ℕ) → a < length tasks → L.member a (released_at v a) ≡ true → 0 < v.left a → q ≤ released_at v a
    pub sums : sum_below (length tasks) (owes v) + v.clock ≤ sum_below (length tasks) (granted q v) + L.lost + q

  -- no job of the level is pending
  abbrev pub Quiet : Batch → Type 0
  Quiet v = (a : ℕ) → a < length tasks → L.member a (released_at v a) ≡ true → v.left a ≡ 0

  -- a quiet level owes nothing
  quiet_owes : (v : Batch) → Sound tasks Before v → Quiet v → (a : ℕ) → a < length tasks → owes v a ≡ 0
  quiet_owes v so h a l =
      elim (cases_Bool (L.member a (released_at v a))) [
        | inl e ↦
            let z : v.left a ≡ 0 = h a l e in
            let y : v.flag a ≡ 0 = omega (arith, so.flags a l) in
            cond-true _ _ _ e ∙ rw (z, y) (omega arith)
        | inr e ↦ cond-false _ _ _ e
      ]

  -- where the level is quiet, count from now on
  restart : (v : Batch) → Sound tasks Before v → Quiet v → Covered v.clock v
  restart v so h = record {
    behind = omega arith;
    late = λ a l e m. absurd (omega (arith, h a l e));
    sums = omega (arith, sum_zero (length tasks) (owes v) (quiet_owes v so h));
  }

  -- where the time since q suffices for what was granted since q, the level is quiet: the window is cut there
  cut : {q : ℕ} {v : Batch} → Covered q v → sum_below (length tasks) (granted q v) + L.lost + q ≤ v.clock → Quiet v
  cut {q} {v} co h a l e =
      let owed : v.left a ≤ owes v a = rw e (omega arith) in
      omega (arith, sum_part (length tasks) (owes v) a l, co.sums)

  -- A release raises both sides by the cost of its job, if that is of the level.
  module _ {q a : ℕ} {v w : Batch} (co : Covered q v) (st : Released tasks a v w) where
    -- the new job owes its cost at most
    new_owes : owes w a ≤ cond (L.member a v.clock) (task_at tasks a).cost 0
    new_owes =
        rw (st.releases_are, st.flag_is)
        (elim (cases_Bool (L.member a v.clock)) [
          | inl e ↦ rw e (omega (arith, st.left_fits))
          | inr e ↦ rw e (omega arith)
        ])

    -- and its release brings that much
    new_brought : brought q w a ≡ cond (L.member a v.clock) (task_at tasks a).cost 0 + brought q v a
    new_brought =
        rw st.releases_are
        (elim (cases_Bool (L.member a v.clock)) [
          | inl e ↦
              let y = and_from _ _ e (le-leb q v.clock co.behind) in
              rw (count_yes (since L.member q a) v.clock (v.releases a) y, e) (omega arith)
          | inr e ↦ rw (count_no (since L.member q a) v.clock (v.releases a) (and_left _ _ e), e) (omega arith)
        ])

    -- it takes away no charge
    new_spoils : spoils q v a ≤ spoils q w a
    new_spoils = rw (st.clock_is, st.releases_are) (mul-le-mul_right (L.charge a) (omega arith))

    -- both sides compared place by place
    each_release : (b : ℕ) → b < length tasks → owes w b + granted q v b ≤ owes v b + granted q w b
    each_release b l =
        elim (cases_eq b a) [
          | inl e ↦
              at_place (λ x. owes w x + granted q v x ≤ owes v x + granted q w x) e (omega (arith, new_owes, new_brought, new_spoils))
          | inr d ↦ rw (st.releases_same b l d, st.left_same b l d, st.flag_same b l d, st.clock_is) (omega arith)
        ]

    -- so a release keeps the level covered
    released_covers : Covered q w
    released_covers = record {
      behind = omega (arith, co.behind, st.clock_is);
      late = λ b l e m.
          elim (cases_eq b a) [
            | inl z ↦ at_place (λ x. q ≤ released_at w x) z (rw st.releases_are co.behind)
            | inr d ↦ rw (st.releases_same b l d) (co.late b l (rw (st.releases_same b l d) at e) (rw (st.left_same b l d) at m))
          ];
      sums =
          omega (
            arith,
            sum_le (length tasks) (λ b. owes w b + granted q v b) (λ b. owes v b + granted q w b) each_release,
            sum_add (length tasks) (owes w) (granted q v),
            sum_add (length tasks) (owes v) (granted q w),
            co.sums,
            st.clock_is,
          );
    }

  -- a release outside the level leaves it quiet
  released_quiet : {a : ℕ} {v w : Batch} → Released tasks a v w → Quiet v → L.member a v.clock ≡ false → Quiet w
  released_quiet {a} {v} {w} st h out b l e =
      elim (cases_eq b a) [
        | inl z ↦ absurd (both_ways _ out (rw st.releases_are at (at_place (λ x. L.member x (released_at w x) ≡ true) (sym z) e)))
        | inr d ↦ st.left_same b l d ∙ h b l (rw (st.releases_same b l d) at e)
      ]

  module _ {k retry : ℕ} {v w : Batch} (so : Sound tasks Before v) (mu : MostUrgent tasks Before k v)
      (st : Worked attempt tasks k retry v w) where
    -- where a job outside the level works, none of the level is pending
    worked_quiet : L.member k (released_at v k) ≡ false → Quiet w
    worked_quiet out b l e =
        elim (cases_eq b k) [
          | inl z ↦
              absurd (both_ways _ out
              (rw (st.releases_same k mu.there) at (at_place (λ x. L.member x (released_at w x) ≡ true) (sym z) e)))
          | inr d ↦
              elim (cases_lt 0 (w.left b)) [
                | inl m ↦
                    let before = mu.first b l d (rw (st.left_same b l d) at m) in
                    absurd (both_ways _ out (L.within _ _ (L.above _ _ _ _ before (rw (st.releases_same b l) at e))))
                | inr m ↦ omega arith
              ]
        ]

    -- A tick of a job of the level: one tick is done, and a preemption is paid for by the release of the job that preempts.
    module _ {q : ℕ} (co : Covered q v) (mine : L.member k (released_at v k) ≡ true) where
      -- the work that was brought stays
      kept_brought : (b : ℕ) → b < length tasks → brought q w b ≡ brought q v b
      kept_brought b l = rw (st.releases_same b l)

      -- a spoiler that was counted stays counted
      counts_on : (b r : ℕ) → between L.spoiler q (choice_of v) b r ≡ true → between L.spoiler q (choice_of w) b r ≡ true
      counts_on b = between_later L.spoiler q b (omega (arith, st.clock_is))

      -- so the charges do not shrink
      more_spoils : (b : ℕ) → b < length tasks → spoils q v b ≤ spoils q w b
      more_spoils b l = rw (st.releases_same b l) (mul-le-mul_right (L.charge b) (count_more _ _ (counts_on b) (v.releases b)))

      -- the job that works owes a tick less: what a retry asks for again was weighed by the flag
      my_owes : owes w k + 1 ≤ owes v k
      my_owes =
          rw (st.releases_same k mu.there, mine)
          (omega (arith, st.work, mul-le-mul_left retry (L.weighs k), mul-le-mul_right (L.weight k) st.spent))

      -- another owes more only by its flag
      their_owes : (b x : ℕ) → b < length tasks → (b ≡ k → ⊥) → w.flag b ≤ v.flag b + x → owes w b ≤ owes v b + x * L.weight b
      their_owes b x l d h =
          rw (st.releases_same b l, st.left_same b l d)
          (elim (cases_Bool (L.member b (released_at v b))) [
            | inl e ↦ rw e (omega (arith, mul-le-mul_right (L.weight b) h))
            | inr e ↦ rw e (omega arith)
          ])

      -- the balance of the tick, where the job of place l owes g more, and the releases of k pay for it
      balance : (l g : ℕ) → spoils q v k + g ≤ spoils q w k
          → ((b : ℕ) → b < length tasks → (b ≡ k → ⊥) → owes w b ≤ owes v b + at l g b) → Covered q w
      balance l g paid theirs = record {
        behind = omega (arith, co.behind, st.clock_is);
        late = λ b lb e m.
            rw (st.releases_same b lb) (co.late b lb (rw (st.releases_same b lb) at e) (was_pending so mu st b lb m));
        sums =
            omega (
              arith,
              sum_step (length tasks) k (1 + g) l g (λ b. owes w b + granted q v b) (λ b. owes v b + granted q w b) mu.there each_tick,
              sum_add (length tasks) (owes w) (granted q v),
              sum_add (length tasks) (owes v) (granted q w),
              co.sums,
              st.clock_is,
            );
      }
        where
          -- both sides compared place by place
          each_tick : (b : ℕ) → b < length tasks
              → (owes w b + granted q v b) + at k (1 + g) b ≤ (owes v b + granted q w b) + at l g b
          each_tick b lb =
              elim (cases_eq b k) [
                | inl e ↦
                    at_place (λ x. (owes w x + granted q v x) + at k (1 + g) x ≤ (owes v x + granted q w x) + at l g x) e
                    (omega (arith, at_same k (1 + g), my_owes, kept_brought k mu.there, paid))
                | inr d ↦ omega (arith, at_other k (1 + g) b d, kept_brought b lb, more_spoils b lb, theirs b lb d)
              ]

      -- nobody of the level is preempted
      unspoiled : ((b : ℕ) → b < length tasks → (b ≡ k → ⊥) → owes w b ≤ owes v b) → Covered q w
      unspoiled h = balance k 0 (omega (arith, more_spoils k mu.there)) (λ b l d. omega (arith, h b l d))

      -- One is: the job that works was released after q and after the last choice, so it is counted from this tick on.
      module _ (asym : Asymmetric Before) {l : ℕ} (was_last : v.last ≡ Some l) (other : l ≡ k → ⊥)
          (theirs : L.member l (released_at v l) ≡ true) where
        -- it was not there at the last choice
        new : choice_of v ≤ released_at v k
        new = preempts_new so mu was_last other asym

        -- and came after q, since the job that it preempts came at q or later and has worked since
        after : q < released_at v k
        after = omega (arith, co.late l (so.last_there l was_last) theirs (so.last_pending l was_last), so.last_early l was_last, new)

        -- it was not counted before this tick ..
        uncounted : between L.spoiler q (choice_of v) k (released_at v k) ≡ false
        uncounted = and_right (L.spoiler k (released_at v k)) _ (and_right (ltb q (released_at v k)) _ (le-ltb _ _ new))

        -- .. and is counted after it
        counted : between L.spoiler q (choice_of w) k (released_at v k) ≡ true
        counted =
            and_from _ _ (L.above _ _ _ _ (preempts_first so mu was_last other) theirs)
            (and_from _ _ (lt-ltb _ _ after) (lt-ltb _ _ (omega (arith, released_by so k mu.there, st.clock_is))))

        -- its charge covers the weight of the job that it preempts
        paid : spoils q v k + L.weight l ≤ spoils q w k
        paid =
            let one = count_gains _ _ (counts_on k) (v.releases k) (omega (arith, after)) uncounted counted in
            rw (st.releases_same k mu.there)
            (omega (arith, L.pays _ _ _ _ (preempts_first so mu was_last other) theirs, mul-le-mul_right (L.charge k) one))

        -- the balance of a preemption
        spoiled : ((b : ℕ) → b < length tasks → (b ≡ k → ⊥) → w.flag b ≤ v.flag b + at l 1 b) → Covered q w
        spoiled flags =
            balance l (L.weight l) paid
            (λ b lb d.
            elim (cases_eq b l) [
              | inl e ↦
                  at_place (λ x. owes w x ≤ owes v x + at l (L.weight l) x) e
                  (let there = so.last_there l was_last in
                  omega (arith, at_same l (L.weight l), their_owes l 1 there other (omega (arith, flags l there other, at_same l 1))))
              | inr e ↦ omega (arith, their_owes b 0 lb d (omega (arith, flags b lb d, at_other l 1 b e)))
            ])

      -- so a tick of a job of the level keeps it covered
      worked_covers : Asymmetric Before → Covered q w
      worked_covers asym =
          elim (cases_lt 0 p.number) [
            | inl m ↦
                let one : p.number ≡ 1 = omega (arith, p.number_small) in
                elim (cases_Bool (L.member p.victim (released_at v p.victim))) [
                  | inl e ↦ spoiled asym (p.was_last m) (p.is_other m) e (λ b l d. rw one at (p.flags_grow b l d))
                  | inr e ↦
                      unspoiled (λ b l d.
                      elim (cases_eq b p.victim) [
                        | inl z ↦ outside b l (at_place (λ x. L.member x (released_at v x) ≡ false) z e)
                        | inr z ↦ unflagged b l d (omega (arith, p.flags_grow b l d, at_other p.victim p.number b z))
                      ])
                ]
            | inr m ↦
                unspoiled (λ b l d.
                elim (cases_eq b p.victim) [
                  | inl z ↦
                      let one = at_place (λ x. at p.victim p.number x ≡ p.number) z (at_same p.victim p.number) in
                      unflagged b l d (omega (arith, p.flags_grow b l d))
                  | inr z ↦ unflagged b l d (omega (arith, p.flags_grow b l d, at_other p.victim p.number b z))
                ])
          ]
        where
          -- whom the tick preempts
          p : Preempts tasks k v w
          p = preempts st

          -- a job with no new flag owes no more
          unflagged : (b : ℕ) → b < length tasks → (b ≡ k → ⊥) → w.flag b ≤ v.flag b → owes w b ≤ owes v b
          unflagged b l d h = omega (arith, their_owes b 0 l d (omega arith))

          -- a job outside the level owes it nothing
          outside : (b : ℕ) → b < length tasks → L.member b (released_at v b) ≡ false → owes w b ≤ owes v b
          outside b l e = rw (st.releases_same b l, e) (omega arith)

  -- A horizon lies ahead of each release of the level, and what is granted since q is done by the horizon of q.
  pub record Horizon (horizon : ℕ → ℕ) : Type 0 where
    pub ahead : (a r : ℕ) → a < length tasks → L.member a r ≡ true → r < horizon r
    pub enough : (q c : ℕ) (v : Batch) → ReleasedBy tasks c v → v.clock ≡ c + 1 → q ≤ v.clock → v.clock ≡ horizon q
        → sum_below (length tasks) (granted q v) + L.lost + q ≤ v.clock

  -- What is kept of a level: it is quiet, or covered since a moment whose horizon has not come.
  abbrev pub Kept : (ℕ → ℕ) → Batch → Type 0
  Kept horizon v = Quiet v ⊎ ((q : ℕ) × Covered q v × (v.clock < horizon q))

  module _ (asym : Asymmetric Before) {horizon : ℕ → ℕ} (ho : Horizon horizon) where
    -- a release into a quiet level begins a window
    released_kept : {a : ℕ} {v w : Batch} → Sound tasks Before v → Released tasks a v w → Kept horizon v → Kept horizon w
    released_kept {a} {v} so st (inl h) =
        elim (cases_Bool (L.member a v.clock)) [
          | inl e ↦
              let ahead = ho.ahead a v.clock st.there e in
              inr (v.clock, released_covers (restart v so h) st, omega (arith, st.clock_is))
          | inr e ↦ inl (released_quiet st h e)
        ]
    released_kept so st (inr (q, co, l)) = inr (q, released_covers co st, omega (arith, st.clock_is))

    -- a tick of the level that comes to the horizon ends one
    worked_kept : {k retry : ℕ} {v w : Batch} → Sound tasks Before v → MostUrgent tasks Before k v → Worked attempt tasks k retry v w
        → L.member k (released_at v k) ≡ true → Kept horizon v → Kept horizon w
    worked_kept {k} so mu st mine (inl h) = absurd (omega (arith, h k mu.there mine, mu.pending))
    worked_kept {v = v} {w = w} so mu st mine (inr (q, co, l)) =
        let cw = worked_covers so mu st co mine asym in
        elim (cases_lt w.clock (horizon q)) [
          | inl e ↦ inr (q, cw, e)
          | inr e ↦
              let by : ReleasedBy tasks v.clock w = λ a la. rw (st.releases_same a la) (so.apart a la) in
              inl (cut cw (ho.enough q v.clock w by st.clock_is cw.behind (omega (arith, st.clock_is))))
        ]

    -- every run keeps the level
    run_kept : {v : Batch} → Run attempt tasks Before v → Kept horizon v
    run_kept (opened o) = inl (λ a l _. o.left_is a l)
    run_kept (released r st) = released_kept (run_sound r) st (run_kept r)
    run_kept (idled r st) = inl (λ a l _. st.left_same a l ∙ st.none_pending a l)
    run_kept (worked {v = v} {k = k} r mu st) =
        elim (cases_Bool (L.member k (released_at v k))) [
          | inl e ↦ worked_kept (run_sound r) mu st e (run_kept r)
          | inr e ↦ inl (worked_quiet (run_sound r) mu st e)
        ]

    -- so a pending job of the level was released at some q or later, and the horizon of q has not come
    pub run_early : {v : Batch} → Run attempt tasks Before v → (a : ℕ) → a < length tasks
        → L.member a (released_at v a) ≡ true → 0 < v.left a → (q : ℕ) × (q ≤ released_at v a) × (v.clock < horizon q)
    run_early r a l e m =
        elim (run_kept r) [
          | inl h ↦ absurd (omega (arith, h a l e))
          | inr (q, co, h) ↦ (q, co.late a l e m, h)
        ]
