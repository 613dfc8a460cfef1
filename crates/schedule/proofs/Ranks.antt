-- By rank: the level of a rank, and the window of a witness.
use Rattle.std.proofs.Common.{◌≡◌, ℕ, ◌+◌, ◌<◌, ◌≤◌, ltb, leb, List, length, get_or, mul-le-mul_right, arith}
use Rattle.std.proofs.lemmas.Bool.{cond_both, leb-true, ltb-true, le-leb, lt-ltb, and_left}
use Rattle.std.proofs.lemmas.Nat.{le-div}
use Rattle.admission.specs.declared.plan.AdoptedTask.{AdoptedTask}
use Rattle.admission.specs.Search.{sum_below}
use Rattle.admission.specs.Demand.{work_by_rank, charge_by_rank}
use Rattle.schedule.specs.Batches.{Batch, ByRank, task_at}
use Rattle.schedule.specs.Theorems.{AdmittedByRank, KeepsDeadlines}
use Rattle.schedule.proofs.Releases.{count_since, count_none}
use Rattle.schedule.proofs.Moments.{Asymmetric, choice_of}
use Rattle.schedule.proofs.Levels.{Level, Horizon, ReleasedBy, since, since_parts, between, between_parts, run_early}
use Rattle.schedule.proofs.Levels.{brought, spoils, granted, granted_at_most}

-- of two ranks not both are before the other
pub rank_asymmetric : (tasks : List AdoptedTask) → Asymmetric (ByRank tasks)
rank_asymmetric tasks a ra b rb f g = omega arith

-- the jobs ranked up to a rank; those ranked before it may preempt one of them
abbrev pub rank_level : (attempt : ℕ) (tasks : List AdoptedTask) → ℕ → Level attempt (ByRank tasks)
rank_level attempt tasks rank = record {
  member = λ a r. leb (task_at tasks a).rank rank;
  spoiler = λ a r. ltb (task_at tasks a).rank rank;
  weight = λ _. attempt;
  charge = λ _. attempt;
  lost = 0;
  within = λ a r e. le-leb _ _ (omega (arith, ltb-true (task_at tasks a).rank rank e));
  above = λ a ra b rb f e. lt-ltb _ _ (omega (arith, leb-true (task_at tasks b).rank rank e));
  pays = λ a ra b rb f e. omega arith;
  weighs = λ a. omega arith;
}

module _ (attempt : ℕ) (tasks : List AdoptedTask) (rank : ℕ)
    (periods : (a : ℕ) → a < length tasks → 0 < (task_at tasks a).period) where
  -- the level of the rank
  abbrev level : Level attempt (ByRank tasks)
  level = rank_level attempt tasks rank

  -- What is released from q on, and before t ticks are over, is what the test counts within t.
  module _ (q t c : ℕ) (v : Batch) (end : q + t ≡ c + 1) (positive : 1 ≤ t) (by : ReleasedBy tasks c v) where
    -- as work ..
    work_at_most : (a : ℕ) → a < length tasks → brought tasks level q v a ≤ work_by_rank rank t (task_at tasks a)
    work_at_most a l =
        cond_both (leb (task_at tasks a).rank rank) _ _ (λ z. brought tasks level q v a ≤ z)
        (λ e. mul-le-mul_right (task_at tasks a).cost
        (le-div _ _ (task_at tasks a).period (periods a l)
        (omega (
          arith,
          periods a l,
          count_since (task_at tasks a).period q (since level.member q a) (λ r y. (since_parts level.member q a r y).1)
              (c + (task_at tasks a).period) (v.releases a) (by a l),
        ))))
        (λ e. rw (count_none (since level.member q a) (λ r. and_left _ _ e) (v.releases a)) (omega arith))

    -- .. and as the charge
    charge_at_most : (a : ℕ) → a < length tasks → spoils tasks level q v a ≤ charge_by_rank attempt rank t (task_at tasks a)
    charge_at_most a l =
        cond_both (ltb (task_at tasks a).rank rank) _ _ (λ z. spoils tasks level q v a ≤ z)
        (λ e. mul-le-mul_right attempt
        (le-div _ _ (task_at tasks a).period (periods a l)
        (omega (
          arith,
          periods a l,
          count_since (task_at tasks a).period (q + 1) (between level.spoiler q (choice_of v) a)
              (λ r y. omega (arith, (between_parts level.spoiler q (choice_of v) a r y).1))
              (c + (task_at tasks a).period) (v.releases a) (by a l),
        ))))
        (λ e. rw (count_none (between level.spoiler q (choice_of v) a) (λ r. and_left _ _ e) (v.releases a)) (omega arith))

    -- so what is granted is at most the demand
    window : sum_below (length tasks) (granted tasks level q v)
        ≤ sum_below (length tasks) (λ a. work_by_rank rank t (task_at tasks a))
        + sum_below (length tasks) (λ a. charge_by_rank attempt rank t (task_at tasks a))
    window = granted_at_most tasks level q v _ _ work_at_most charge_at_most

-- the window of a level is cut at the witness of its task
witness_horizon : (attempt : ℕ) (tasks : List AdoptedTask) (ok : AdmittedByRank attempt tasks) (j : ℕ) → j < length tasks
    → Horizon tasks (rank_level attempt tasks (task_at tasks j).rank) (λ q. q + get_or ok.witnesses j 0)
witness_horizon attempt tasks ok j there = record {
  ahead = λ a r l e. omega (arith, (ok.meets j there).0);
  enough = λ q c v by tick behind here.
      let t = get_or ok.witnesses j 0 in
      let end : q + t ≡ c + 1 = omega arith in
      omega (
        arith,
        (ok.meets j there).2,
        window attempt tasks (task_at tasks j).rank ok.periods q t c v end (ok.meets j there).0 by,
      );
}

-- so a pending job, which is of the level of its own rank, was released less than a witness ago
pub deadlines_by_rank_lem : KeepsDeadlines AdmittedByRank ByRank
deadlines_by_rank_lem attempt tasks ok v r a l m =
    let h = run_early tasks (rank_level attempt tasks (task_at tasks a).rank) (rank_asymmetric tasks)
    (witness_horizon attempt tasks ok a l) r a l (le-leb _ _ (omega arith)) m in
    omega (arith, h.1, h.2, (ok.meets a l).1)
