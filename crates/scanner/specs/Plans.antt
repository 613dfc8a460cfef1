-- What the lines of a script say, taken together: lists for the next adoption, and a list of calls.
use Rattle.std.specs.Prelude.{ℕ, ◌+◌, ◌-◌, min, List, [], ◌∷◌, ◌++◌, map, length, replicate, Some, None, vec_items, Option}
use Rattle.admission.specs.declared.task.Segment.{Segment}
use Rattle.admission.specs.declared.task.Task.{Task}
use Rattle.runs.specs.Entries.{Entry, adopts, opens, releases, ticks, closes, reads, demands, entry_of}
use Rattle.scanner.specs.declared.plan.Plan.{Plan}
use Rattle.scanner.specs.declared.plan.Tokens.{Tokens}
use Rattle.scanner.specs.declared.script.Line.{Line}
use Rattle.scanner.specs.declared.script.Line.TheVariants as line

pub record Draft : Type 0 where
  -- the rule number, the task list and the segment list for the next adoption
  pub rule : ℕ
  pub tasks : List Task
  pub segments : List Segment
  -- the tokens held once the calls are made
  pub tokens : Tokens
  pub calls : List Entry
  -- how many calls come before each chart
  pub charts : List ℕ

abbrev pub draft : Plan → Draft
draft p =
    record {
      rule = p.rule;
      tasks = vec_items p.tasks;
      segments = vec_items p.segments;
      tokens = p.tokens;
      calls = map entry_of (vec_items p.calls);
      charts = vec_items p.charts;
    }

abbrev pub no_tokens : Tokens
no_tokens = record { good = None; voids = 0 }

-- before the first line
abbrev pub blank : Draft
blank = record { rule = 0; tasks = []; segments = []; tokens = no_tokens; calls = []; charts = [] }

-- the tokens after an open: a good one unless a good one is held
abbrev pub tokens_opened : Option ℕ → ℕ → Tokens
tokens_opened None voids = record { good = Some voids; voids = voids }
tokens_opened (Some position) voids = record { good = Some position; voids = min (voids + 1) 18446744073709551615 }

-- the position of the token to hand in: the good one if it is held, else the oldest void one
abbrev pub token_next : Option ℕ → ℕ
token_next None = 0
token_next (Some position) = position

abbrev pub tokens_closed : Option ℕ → ℕ → Tokens
tokens_closed None voids = record { good = None; voids = voids - 1 }
tokens_closed (Some position) voids = record { good = None; voids = voids }

abbrev with_lists : Draft → List Task → List Segment → Draft
with_lists d tasks segments =
    record { rule = d.rule; tasks = tasks; segments = segments; tokens = d.tokens; calls = d.calls; charts = d.charts }

abbrev pub with_calls : Draft → Tokens → List Entry → Draft
with_calls d tokens more =
    record { rule = d.rule; tasks = d.tasks; segments = d.segments; tokens = tokens; calls = d.calls ++ more; charts = d.charts }

-- one line more
abbrev pub drafted : Line → Draft → Draft
drafted (line.Rule rule) d =
    record { rule = rule; tasks = d.tasks; segments = d.segments; tokens = d.tokens; calls = d.calls; charts = d.charts }
drafted (line.Task task) d = with_lists d (d.tasks ++ task ∷ []) d.segments
drafted (line.Segment segment) d = with_lists d d.tasks (d.segments ++ segment ∷ [])
drafted line.Clear d = with_lists d [] []
drafted line.Adopt d = with_calls d d.tokens (adopts d.rule d.tasks d.segments ∷ [])
drafted line.Open d = with_calls d (tokens_opened d.tokens.good d.tokens.voids) (opens ∷ [])
drafted (line.Release place) d = with_calls d d.tokens (releases place ∷ [])
drafted (line.Tick times) d = with_calls d d.tokens (replicate times ticks)
drafted line.Close d =
    with_calls d (tokens_closed d.tokens.good d.tokens.voids) (closes (token_next d.tokens.good) ∷ [])
drafted (line.Read object) d = with_calls d d.tokens (reads object ∷ [])
drafted (line.Demand place time) d = with_calls d d.tokens (demands place time ∷ [])
drafted line.Chart d =
    record {
      rule = d.rule;
      tasks = d.tasks;
      segments = d.segments;
      tokens = d.tokens;
      calls = d.calls;
      charts = d.charts ++ length d.calls ∷ [];
    }
