-- The refusals of the parts as those of the whole.
use Rattle.cnf_frames.specs.declared.queries.FrameError.{FrameError}
use Rattle.cnf_frames.specs.declared.queries.FrameError.TheVariants as frame
use Rattle.ea_reduce.specs.declared.reduce_error.ReduceError.{ReduceError}
use Rattle.ea_reduce.specs.declared.reduce_error.ReduceError.TheVariants as plans
use Rattle.ltl_closure.specs.declared.closure_error.ClosureError.{ClosureError}
use Rattle.ltl_closure.specs.declared.closure_error.ClosureError.TheVariants as closures
use Rattle.net_names.specs.declared.name_error.NameError.{NameError}
use Rattle.net_names.specs.declared.name_error.NameError.TheVariants as bad_names
use Rattle.rank_proofs.specs.Counts.{closure_limit}
use Rattle.claim_check.specs.declared.error.CertError.{CertError}
use Rattle.claim_check.specs.declared.error.CertError.TheVariants.{Prefix, Limit, Name, Memory}

abbrev pub of_plan : ReduceError → CertError
of_plan (plans.Prefix second found) = Prefix second found
of_plan (plans.Limit limit) = Limit limit
of_plan plans.Memory = Memory

abbrev pub of_closure : ClosureError → CertError
of_closure closures.Limit = Limit closure_limit
of_closure closures.Memory = Memory

abbrev pub of_names : NameError → CertError
of_names (bad_names.Bad name twice) = Name name twice
of_names bad_names.Memory = Memory

abbrev pub of_frames : FrameError → CertError
of_frames (frame.Limit limit) = Limit limit
of_frames frame.Memory = Memory
