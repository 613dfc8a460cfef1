use Rattle.examples.proofs.Computed as computed
use Rattle.examples.proofs.worked_examples.Goals as goal

pub returns : goal.returns
returns c =
    record {
      a_costs = computed.a_costs;
      a_attempt = computed.a_attempt;
      a_taken = computed.a_taken;
      a_witnesses = computed.a_witnesses;
      a_ranks = computed.a_ranks;
      a_shorter = computed.a_shorter;
      a_by_deadline = computed.a_by_deadline;
      a_load = computed.a_load;
      a_overload = computed.a_overload;
      a_overload_hyperperiod = computed.a_overload_hyperperiod;
      a_overload_load = computed.a_overload_load;
      pair_fails = computed.pair_fails;
      pair_taken = computed.pair_taken;
      attempts = computed.attempts;
      a_demand = computed.a_demand;
      queue_refuses = computed.queue_refuses;
      queue_accepts = computed.queue_accepts;
      queue_misses = computed.queue_misses;
      queue_waits = computed.queue_waits;
      run_deadlines = computed.run_deadlines;
      run_answers = computed.run_answers;
      run_sums = computed.run_sums;
      run_reading = computed.run_reading;
    }
