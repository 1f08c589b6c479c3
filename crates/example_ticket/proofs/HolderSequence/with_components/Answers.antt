use Rattle.std.proofs.Common.{subst}
use Rattle.example_ticket.specs.Tickets.{holder}
use Rattle.example_ticket.proofs.HolderSequence.with_components.Goals as goal

pub returns : goal.returns
returns g c =
    subst (λ v. g.U.ComponentVisitor.Visits c.args.visitor.now c.visit.new.self (holder.format.text v) (λ k. holder.format.IsWellFormed k v) c.visit.result) c.choice.ensures c.visit.ensures
