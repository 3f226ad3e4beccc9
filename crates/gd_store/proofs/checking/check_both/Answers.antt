use Rattle.gd_store.proofs.PagesKept.{both_checked}
use Rattle.gd_store.proofs.checking.check_both.Goals as goal

pub returns-clause-told : goal.returns-clause-told
returns-clause-told g c = λ payload is.
    both_checked c.args.layout c.args.number payload c.args.digest.now c.in_ok-a.a c.in_ok-b.b (g.D.Disk.state c.args.disk.now).seen _ is c.requires.number c.in_ok-a.ensures.seen c.in_ok-a.ensures.told c.in_ok-b.ensures.told
