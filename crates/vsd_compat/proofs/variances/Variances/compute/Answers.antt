use Rattle.std.proofs.Common.{refl, ◌∙◌}
use Rattle.vsd_compat.specs.Matrices.{bits_of}
use Rattle.vsd_compat.specs.Settling.{IsStarted}
use Rattle.vsd_compat.proofs.Completeness.{complete}
use Rattle.vsd_compat.proofs.variances.Variances.compute.Goals as goal

pub returns : goal.returns
returns c =
    let s = c.args.closed.now in
    let all = c.settle_all.ensures.improves in
    let first = c.start.ensures.started in
    let started : IsStarted s (bits_of c.settle_all.new.matrix) = record {
      own = λ t within. all.kept t t (first.own t within);
      object = λ t u t_in u_in is. all.kept t u (first.object t u t_in u_in is);
    } in
    record {
      count = all.count ∙ c.start.ensures.count;
      exact = λ t u t_in u_in. (λ set. all.sound c.start.ensures.sound t u t_in u_in set, λ related. complete s (bits_of c.settle_all.new.matrix) c.count.ensures.distinct c.count.ensures.closed started c.in_ok-settle_all.ensures.settled related t u t_in u_in refl refl);
    }
