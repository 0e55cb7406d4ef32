use Rattle.vsd_table.proofs.opening.layout.Given as goal

abbrev pub ghost-of : goal.ghost-of
ghost-of g a = record {
  types = g.R.Resolver.types a._from.now.resolver.now;
  site_tokens = a._from.now.sites.now;
  host_types = a._from.now.hosts.now;
  sel = g.R.Resolver.sel a._from.now.resolver.now;
  cmp = g.R.Resolver.cmp a._from.now.resolver.now;
}
