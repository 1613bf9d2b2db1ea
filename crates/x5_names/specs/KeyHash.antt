-- What a key gives a hasher: its pairs' types and normal values, RDN by RDN.
use Rattle.std.specs.Prelude.{◌++◌}
use Rattle.std.specs.Hash.{HashWrites, u8, slice}
use Rattle.x5_model.specs.Keys.{KeyPair, KeyRdn, Key}

abbrev pub pair_writes : KeyPair → HashWrites
pair_writes p = u8 p.0 ++ slice u8 p.1

abbrev pub rdn_writes : KeyRdn → HashWrites
rdn_writes r = slice pair_writes r

abbrev pub key_writes : Key → HashWrites
key_writes k = slice rdn_writes k
