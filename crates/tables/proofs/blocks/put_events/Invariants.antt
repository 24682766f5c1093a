use Rattle.tables.specs.Stores.{EventsPut}
use Rattle.tables.proofs.blocks.put_events.Given as goal

abbrev pub invariant-loop-i : goal.invariant-loop-i
invariant-loop-i l = EventsPut l.d l.m l.i l.rest l.initial.table l.table
