-- decode: a passed file's columns, with its labels.
use Rattle.decoding.proofs.Decoding.{whole_of}
use Rattle.decoding.proofs.decode.Goals as goal

pub labels_of-requires : goal.labels_of-requires
labels_of-requires c = whole_of _ c.in_ok-decode_into.ensures.answers
