-- The tables of tables.rs, number by number. Made by scripts/tables.py.
use Rattle.std.specs.Prelude.{List, [], ◌∷◌, Float}
use Rattle.std.specs.Float.{binary64}
use Rattle.std.specs.Float.Ieee.{of_bits}

-- PT. Exospheric temperature.
unfoldable pub pt_t : List Float
pt_t =
    of_bits binary64 0x3fef92018a43bb41 ∷ of_bits binary64 0x3f909cb5adcc5685 ∷ of_bits binary64 0x3f8fcc9ea9a3d2d8 ∷ of_bits binary64 0xbfbab4e9813879c4 ∷ of_bits binary64 0xbf6ec91e41898d32 ∷
    of_bits binary64 0xbf536bd8155551c1 ∷ of_bits binary64 0xbfbfc148344c37e7 ∷ of_bits binary64 0x3f72b61ad9a019e6 ∷ of_bits binary64 0x3f81f0db74db493c ∷ of_bits binary64 0xbfc1702602c9081c ∷
    of_bits binary64 0xbfa20b54c7d87146 ∷ of_bits binary64 0x3f821ba7a64cb05d ∷ of_bits binary64 0xbf7840e6d0033819 ∷ of_bits binary64 0xc0213ba5e353f7cf ∷ of_bits binary64 0x0000000000000000 ∷
    of_bits binary64 0x3f8a50ae6e3cf47d ∷ of_bits binary64 0x0000000000000000 ∷ of_bits binary64 0x406043126e978d50 ∷ of_bits binary64 0x3f856a5284315288 ∷ of_bits binary64 0x3f5b255fe0e63452 ∷
    of_bits binary64 0xbed73b50fe1036e8 ∷ of_bits binary64 0x3f6865874355c026 ∷ of_bits binary64 0x0000000000000000 ∷ of_bits binary64 0x3f750479616ad409 ∷ of_bits binary64 0x3fb6308e3d4504ed ∷
    of_bits binary64 0x3fc4512a94ff0026 ∷ of_bits binary64 0x0000000000000000 ∷ of_bits binary64 0x0000000000000000 ∷ of_bits binary64 0x0000000000000000 ∷ of_bits binary64 0xbede7e61da0b8be7 ∷
    of_bits binary64 0x0000000000000000 ∷ of_bits binary64 0x401afad18d25edd0 ∷ of_bits binary64 0x3f743b434d06c3e9 ∷ of_bits binary64 0x3f62287696b538b1 ∷ of_bits binary64 0x3f648bb2fc163b81 ∷
    of_bits binary64 0x0000000000000000 ∷ of_bits binary64 0x0000000000000000 ∷ of_bits binary64 0xbf9562a43a068c0b ∷ of_bits binary64 0xbffcc7991bc55864 ∷ of_bits binary64 0x3f57c60f99501da5 ∷
    of_bits binary64 0x3f32774ca3d8c8eb ∷ of_bits binary64 0xbf57b548a1af67b7 ∷ of_bits binary64 0xbf0b12ec4602d168 ∷ of_bits binary64 0x3fb5aee7df77ca3c ∷ of_bits binary64 0x3fc5c7607c4199fe ∷
    of_bits binary64 0x3f7773bf6a63a10f ∷ of_bits binary64 0x3f0a9b74ab9ca821 ∷ of_bits binary64 0x3f71dd57df64ffdf ∷ of_bits binary64 0x3f1ee5a6ebf03134 ∷ of_bits binary64 0x3f736e112a9fbbc8 ∷
    of_bits binary64 0x3f7b16009d5ecb12 ∷ of_bits binary64 0x3f06c4f7f3147fd7 ∷ of_bits binary64 0x3f57a77148979e6d ∷ of_bits binary64 0x3ef951e9346a1d89 ∷ of_bits binary64 0x3f674cd875cd619d ∷
    of_bits binary64 0x3f4c115897f1a3c7 ∷ of_bits binary64 0x3f60b6c6fbfd66f3 ∷ of_bits binary64 0x0000000000000000 ∷ of_bits binary64 0xc0a8afe147ae147b ∷ of_bits binary64 0xbf642fdd68507665 ∷
    of_bits binary64 0x3f52a6ebe79a2d93 ∷ of_bits binary64 0x3f3b8f05499e8d27 ∷ of_bits binary64 0x0000000000000000 ∷ of_bits binary64 0xc0586e2b6ae7d567 ∷ of_bits binary64 0x3f7bc32f6a25e394 ∷
    of_bits binary64 0x3f759b3a58966f18 ∷ of_bits binary64 0x3f52d4c3e7200a37 ∷ of_bits binary64 0x0000000000000000 ∷ of_bits binary64 0xbf7b165932cc301a ∷ of_bits binary64 0xbf92de225fa658c5 ∷
    of_bits binary64 0xbf9418cfda9e46a8 ∷ of_bits binary64 0x40dd297333333333 ∷ of_bits binary64 0x0000000000000000 ∷ of_bits binary64 0x0000000000000000 ∷ of_bits binary64 0x0000000000000000 ∷
    of_bits binary64 0x408424978d4fdf3b ∷ of_bits binary64 0x3f4cfd22105c54d1 ∷ of_bits binary64 0x3f408cccf9e5ac0e ∷ of_bits binary64 0x0000000000000000 ∷ of_bits binary64 0x40af799eb851eb85 ∷
    of_bits binary64 0xbf5f0c54f7feffa5 ∷ of_bits binary64 0x0000000000000000 ∷ of_bits binary64 0x0000000000000000 ∷ of_bits binary64 0x3f4aea7619d17c23 ∷ of_bits binary64 0x3f60f07dabfd496c ∷
    of_bits binary64 0x0000000000000000 ∷ of_bits binary64 0x0000000000000000 ∷ of_bits binary64 0x0000000000000000 ∷ of_bits binary64 0x0000000000000000 ∷ of_bits binary64 0x0000000000000000 ∷
    of_bits binary64 0xbf88a8f3a9b06812 ∷ of_bits binary64 0xbf6dd0db7a39acf5 ∷ of_bits binary64 0x3f1a01ab483a22de ∷ of_bits binary64 0xbf1e389409fc71f0 ∷ of_bits binary64 0xbf10986314a096a6 ∷
    of_bits binary64 0xbfe3609fe86833c6 ∷ of_bits binary64 0x3f8115b4723800cd ∷ of_bits binary64 0xc056d36e2eb1c433 ∷ of_bits binary64 0x3f38510d4164acdb ∷ of_bits binary64 0x0000000000000000 ∷
    of_bits binary64 0x3f3b75a74c09c3ce ∷ of_bits binary64 0x3f6631c59fdcd4ad ∷ of_bits binary64 0x3f6b2834a77c8638 ∷ of_bits binary64 0xbf72350113a6500b ∷ of_bits binary64 0xbf7454706fa9b114 ∷
    of_bits binary64 0xbf5a49b804e99ec0 ∷ of_bits binary64 0x3f702f1f7d48d608 ∷ of_bits binary64 0x3f6464508c8a6778 ∷ of_bits binary64 0x3f40b4a36041df1e ∷ of_bits binary64 0x3f7099e64599bd2b ∷
    of_bits binary64 0x3f625b36dd61c56d ∷ of_bits binary64 0x0000000000000000 ∷ of_bits binary64 0x3f7c06f1b6bc1443 ∷ of_bits binary64 0x3f3e901f2da8ebd8 ∷ of_bits binary64 0x0000000000000000 ∷
    of_bits binary64 0xbf382384b6d5e1ec ∷ of_bits binary64 0x0000000000000000 ∷ of_bits binary64 0x0000000000000000 ∷ of_bits binary64 0xc0625bd70a3d70a4 ∷ of_bits binary64 0x0000000000000000 ∷
    of_bits binary64 0x0000000000000000 ∷ of_bits binary64 0x3f51f0ce08e1fbde ∷ of_bits binary64 0x3f3e7c05cebad268 ∷ of_bits binary64 0x3f426f49cb0b67ce ∷ of_bits binary64 0x4009ba493c89f40a ∷
    of_bits binary64 0x3f451348c34e8504 ∷ of_bits binary64 0x3f69cb17c0e6e57d ∷ of_bits binary64 0x3f6be9cb35480b5c ∷ of_bits binary64 0x3f5d3e092517bc8a ∷ of_bits binary64 0x3f4f8a4dbb0da16d ∷
    of_bits binary64 0x3f424a471864c823 ∷ of_bits binary64 0x400b7f9c62a1b5c8 ∷ of_bits binary64 0xbfcdd955714b9cb7 ∷ of_bits binary64 0x3f40b89d48835a1b ∷ of_bits binary64 0x0000000000000000 ∷
    of_bits binary64 0x0000000000000000 ∷ of_bits binary64 0xc0f6976b33333333 ∷ of_bits binary64 0x0000000000000000 ∷ of_bits binary64 0xbf605abbb8526c5e ∷ of_bits binary64 0x0000000000000000 ∷
    of_bits binary64 0x0000000000000000 ∷ of_bits binary64 0x0000000000000000 ∷ of_bits binary64 0x0000000000000000 ∷ of_bits binary64 0x0000000000000000 ∷ of_bits binary64 0x0000000000000000 ∷
    of_bits binary64 0x0000000000000000 ∷ of_bits binary64 0x0000000000000000 ∷ of_bits binary64 0x0000000000000000 ∷ of_bits binary64 0x0000000000000000 ∷ of_bits binary64 0x0000000000000000 ∷ []

-- PD. Densities, one row each: He, O, N2, the temperature at the lower boundary, O2, Ar, H, N, anomalous O.
unfoldable pub pd_t0 : List Float
pd_t0 =
    of_bits binary64 0x3ff198bd66277c46 ∷ of_bits binary64 0xbfa8fd199bb2788e ∷ of_bits binary64 0xbfc947b677f6b1a3 ∷ of_bits binary64 0xbfb74d9c6b053198 ∷ of_bits binary64 0xbf7c87f0a4c34361 ∷
    of_bits binary64 0x3f98cb733079448f ∷ of_bits binary64 0x3fd90b9991361dc9 ∷ of_bits binary64 0xbf7d7e75d1be4e2f ∷ of_bits binary64 0xbfa085edeb2a85e6 ∷ of_bits binary64 0x3ff6a42aed139431 ∷
    of_bits binary64 0x3fc5876188b1140a ∷ of_bits binary64 0x3f92f90e74370982 ∷ of_bits binary64 0x3fbc0096feb4a665 ∷ of_bits binary64 0xc01cf8a5ce5b4246 ∷ of_bits binary64 0x0000000000000000 ∷
    of_bits binary64 0x3fd2f7d73c925786 ∷ of_bits binary64 0xbfa97507e9d94d0e ∷ of_bits binary64 0x405a074bc6a7ef9e ∷ of_bits binary64 0xbfb60b5b7dd517f5 ∷ of_bits binary64 0xbf47e4c7af1a7917 ∷
    of_bits binary64 0x3eb8ff6a55cca1c2 ∷ of_bits binary64 0x3f51cc3b0188c12f ∷ of_bits binary64 0x0000000000000000 ∷ of_bits binary64 0x0000000000000000 ∷ of_bits binary64 0x3fb546a1a500d5e9 ∷
    of_bits binary64 0x3fbce1a3f4666eca ∷ of_bits binary64 0xbfad70b49e01de27 ∷ of_bits binary64 0xbf8a9b7f4ce73960 ∷ of_bits binary64 0xbf92506b525e71a5 ∷ of_bits binary64 0xbec8052b4a480312 ∷
    of_bits binary64 0x0000000000000000 ∷ of_bits binary64 0xc062e5fbe76c8b44 ∷ of_bits binary64 0xbf7b467d11f97cae ∷ of_bits binary64 0x0000000000000000 ∷ of_bits binary64 0xbf608db1aee42e93 ∷
    of_bits binary64 0x0000000000000000 ∷ of_bits binary64 0x0000000000000000 ∷ of_bits binary64 0x3fa621c54ca5cb00 ∷ of_bits binary64 0xc03c0b5dcc63f141 ∷ of_bits binary64 0xbf6ac54315a95f8a ∷
    of_bits binary64 0x3f6445a220a6be9b ∷ of_bits binary64 0x0000000000000000 ∷ of_bits binary64 0x0000000000000000 ∷ of_bits binary64 0x3fb9244a6223e187 ∷ of_bits binary64 0x3fbf6a2f48c2e771 ∷
    of_bits binary64 0xbfa44c5974e65bea ∷ of_bits binary64 0x0000000000000000 ∷ of_bits binary64 0xbf66a6650410b0d2 ∷ of_bits binary64 0x0000000000000000 ∷ of_bits binary64 0x3f5ec1ac5d40a2dd ∷
    of_bits binary64 0xbf8095c09c11eeeb ∷ of_bits binary64 0x3f06c6cb3df1f72a ∷ of_bits binary64 0xbf7f93ced463efea ∷ of_bits binary64 0x0000000000000000 ∷ of_bits binary64 0xbf62c0414e2902d9 ∷
    of_bits binary64 0xbf774f21a642f548 ∷ of_bits binary64 0xbf7563972926ead0 ∷ of_bits binary64 0x3f789ab64f31ec61 ∷ of_bits binary64 0xc0be7c570a3d70a4 ∷ of_bits binary64 0xbf6c8922a8f75a95 ∷
    of_bits binary64 0xbf7a25b5f214dad8 ∷ of_bits binary64 0xbf5dd99a3aa9493a ∷ of_bits binary64 0x0000000000000000 ∷ of_bits binary64 0xc052f972474538ef ∷ of_bits binary64 0xbf964f765fd8adac ∷
    of_bits binary64 0xbf91aa9cf71c2bb0 ∷ of_bits binary64 0xbf828f8dd2102da0 ∷ of_bits binary64 0x0000000000000000 ∷ of_bits binary64 0x3f990f51ac9afe1e ∷ of_bits binary64 0x3fb62bae03b3e9a7 ∷
    of_bits binary64 0x3fbb0ff10ecb74de ∷ of_bits binary64 0x40dd8b9333333333 ∷ of_bits binary64 0x0000000000000000 ∷ of_bits binary64 0x0000000000000000 ∷ of_bits binary64 0x0000000000000000 ∷
    of_bits binary64 0xc0b77da3d70a3d71 ∷ of_bits binary64 0xbf7720f91ee5486f ∷ of_bits binary64 0xbf64d20f00f9d010 ∷ of_bits binary64 0x0000000000000000 ∷ of_bits binary64 0x4073b9c6a7ef9db2 ∷
    of_bits binary64 0xbf77500ddf66ad5e ∷ of_bits binary64 0x0000000000000000 ∷ of_bits binary64 0x0000000000000000 ∷ of_bits binary64 0xbf7251664f14653d ∷ of_bits binary64 0xbf7269971d6870ad ∷
    of_bits binary64 0x3f7305e16b6a5c3f ∷ of_bits binary64 0x0000000000000000 ∷ of_bits binary64 0x0000000000000000 ∷ of_bits binary64 0x0000000000000000 ∷ of_bits binary64 0x0000000000000000 ∷
    of_bits binary64 0x3fa71a70c48e39ea ∷ of_bits binary64 0x3f993e5fb71fbc5e ∷ of_bits binary64 0x3f794e0a241b3d48 ∷ of_bits binary64 0x0000000000000000 ∷ of_bits binary64 0x0000000000000000 ∷
    of_bits binary64 0xbfd73a797891e215 ∷ of_bits binary64 0xbfa893be8e45a881 ∷ of_bits binary64 0xc052ee45a1cac083 ∷ of_bits binary64 0xbf605b16fcf1adad ∷ of_bits binary64 0x0000000000000000 ∷
    of_bits binary64 0xbf753fcd756938a9 ∷ of_bits binary64 0xbf91d10b1feeb2d1 ∷ of_bits binary64 0xbf8280dd0a31b22a ∷ of_bits binary64 0x3f7ea8396f8d5695 ∷ of_bits binary64 0x3f8f639ada0b79b1 ∷
    of_bits binary64 0x3f85c4f8c2f4dcb6 ∷ of_bits binary64 0x3f884cf0739b024f ∷ of_bits binary64 0x3f64efab9effb501 ∷ of_bits binary64 0x3f5bb1366e511673 ∷ of_bits binary64 0x3fa204e5420e9849 ∷
    of_bits binary64 0xbf928f2679108d16 ∷ of_bits binary64 0x0000000000000000 ∷ of_bits binary64 0xbfb9bc44bf4cb189 ∷ of_bits binary64 0xbf74e9c1a5266aa3 ∷ of_bits binary64 0x0000000000000000 ∷
    of_bits binary64 0x3f6138ccfb1ae8e5 ∷ of_bits binary64 0x0000000000000000 ∷ of_bits binary64 0x0000000000000000 ∷ of_bits binary64 0xc065a828f5c28f5c ∷ of_bits binary64 0x3fe0402afdda8bd2 ∷
    of_bits binary64 0xbfcee675147f1306 ∷ of_bits binary64 0x3f81edb0c8096e94 ∷ of_bits binary64 0x3f66bc29bc66f908 ∷ of_bits binary64 0xbf17570ece87b480 ∷ of_bits binary64 0xc0150183f91e646f ∷
    of_bits binary64 0xbf77ea9ff1777c0d ∷ of_bits binary64 0xbf956a01fc598252 ∷ of_bits binary64 0xbf83bbac1318e178 ∷ of_bits binary64 0x3f84032751d38751 ∷ of_bits binary64 0x3f70ac3d353fa7e1 ∷
    of_bits binary64 0x3f309df26ec7ded1 ∷ of_bits binary64 0xc0161d70a3d70a3d ∷ of_bits binary64 0xbfd6c896dd26b724 ∷ of_bits binary64 0xbf646ac0be20b786 ∷ of_bits binary64 0x0000000000000000 ∷
    of_bits binary64 0x0000000000000000 ∷ of_bits binary64 0x403c9a43fe5c91d1 ∷ of_bits binary64 0x0000000000000000 ∷ of_bits binary64 0x3f3675ebc8183abd ∷ of_bits binary64 0x0000000000000000 ∷
    of_bits binary64 0x0000000000000000 ∷ of_bits binary64 0x0000000000000000 ∷ of_bits binary64 0x0000000000000000 ∷ of_bits binary64 0x0000000000000000 ∷ of_bits binary64 0x0000000000000000 ∷
    of_bits binary64 0x0000000000000000 ∷ of_bits binary64 0x0000000000000000 ∷ of_bits binary64 0x0000000000000000 ∷ of_bits binary64 0x0000000000000000 ∷ of_bits binary64 0x0000000000000000 ∷ []

unfoldable pub pd_t1 : List Float
pd_t1 =
    of_bits binary64 0x3ff05ed288ce703b ∷ of_bits binary64 0xbfc47160956c0d6f ∷ of_bits binary64 0xbfbb4c1a8ac5c140 ∷ of_bits binary64 0xbf9221e37f96b915 ∷ of_bits binary64 0xbf7222518e93004d ∷
    of_bits binary64 0x3fa1a766e1b668dd ∷ of_bits binary64 0x3fa6d0bd1c55a11c ∷ of_bits binary64 0xbfa1168a86005fa1 ∷ of_bits binary64 0xbfad5e438235cfc6 ∷ of_bits binary64 0x3fd66c4c5974e65c ∷
    of_bits binary64 0x3fb034c6b129d917 ∷ of_bits binary64 0x3f96241a917bbde6 ∷ of_bits binary64 0x3fabc7aa4e1cc385 ∷ of_bits binary64 0xc016f7bc7f77af64 ∷ of_bits binary64 0x0000000000000000 ∷
    of_bits binary64 0x3fc86f1dc50ce4eb ∷ of_bits binary64 0xbf8c81c63e3d5271 ∷ of_bits binary64 0x405946872b020c4a ∷ of_bits binary64 0x3fb4e61dd6aa9c20 ∷ of_bits binary64 0x3f2186cc48a9a338 ∷
    of_bits binary64 0x3edb729944f60161 ∷ of_bits binary64 0x3f696b5b98ad0a90 ∷ of_bits binary64 0x0000000000000000 ∷ of_bits binary64 0x0000000000000000 ∷ of_bits binary64 0x3fab8e5c4eb56fb9 ∷
    of_bits binary64 0x3fbfb890d5a5b963 ∷ of_bits binary64 0xbf8ca32be992d631 ∷ of_bits binary64 0x0000000000000000 ∷ of_bits binary64 0x0000000000000000 ∷ of_bits binary64 0xbed09b1add82d0cb ∷
    of_bits binary64 0x0000000000000000 ∷ of_bits binary64 0xbfe6de6bc621b7e1 ∷ of_bits binary64 0xbf7485a61cb4c193 ∷ of_bits binary64 0x0000000000000000 ∷ of_bits binary64 0xbf6a9aa07fbccea8 ∷
    of_bits binary64 0x0000000000000000 ∷ of_bits binary64 0x0000000000000000 ∷ of_bits binary64 0x3fa6a3a662d5b82e ∷ of_bits binary64 0xc02a51d14e3bcd36 ∷ of_bits binary64 0xbf69db282f4918ce ∷
    of_bits binary64 0x3f54690323cbe216 ∷ of_bits binary64 0xbf582fe21ae7b7e0 ∷ of_bits binary64 0xbf597881c6ea09ca ∷ of_bits binary64 0x3fb066c607b6ada7 ∷ of_bits binary64 0x3fc144567125dd09 ∷
    of_bits binary64 0xbf98d2c386d2ed78 ∷ of_bits binary64 0x0000000000000000 ∷ of_bits binary64 0x0000000000000000 ∷ of_bits binary64 0x0000000000000000 ∷ of_bits binary64 0x3f441bcdb3490f8b ∷
    of_bits binary64 0xbf762238ba05cac5 ∷ of_bits binary64 0x3efb6f360792b53e ∷ of_bits binary64 0xbf6b47c48fbc7613 ∷ of_bits binary64 0x0000000000000000 ∷ of_bits binary64 0xbf693d58a609698b ∷
    of_bits binary64 0xbf63e158f5e574e4 ∷ of_bits binary64 0xbf6b883bf92a78cf ∷ of_bits binary64 0x0000000000000000 ∷ of_bits binary64 0xc0929728f5c28f5c ∷ of_bits binary64 0xbfa9d7b3b09c149e ∷
    of_bits binary64 0xbf656d09c3a32d6c ∷ of_bits binary64 0xbf50e5ab6afd4ef6 ∷ of_bits binary64 0x3f291c75705e50b2 ∷ of_bits binary64 0xc054f40b780346dc ∷ of_bits binary64 0xbf8cc7233fa02900 ∷
    of_bits binary64 0xbf8761a38906a45f ∷ of_bits binary64 0xbf70b650df6b8ae8 ∷ of_bits binary64 0x3f26be6ea15992aa ∷ of_bits binary64 0xbf8c995e0a775247 ∷ of_bits binary64 0xbfb1006de4092974 ∷
    of_bits binary64 0xbfb18a364f4765f0 ∷ of_bits binary64 0xc0ca40b333333333 ∷ of_bits binary64 0x0000000000000000 ∷ of_bits binary64 0x0000000000000000 ∷ of_bits binary64 0x0000000000000000 ∷
    of_bits binary64 0x4082ff53f7ced917 ∷ of_bits binary64 0xbf70e270a3004aa9 ∷ of_bits binary64 0xbf621a9f3d9d6f67 ∷ of_bits binary64 0x0000000000000000 ∷ of_bits binary64 0x409a9b147ae147ae ∷
    of_bits binary64 0xbf72f7106d358d81 ∷ of_bits binary64 0x0000000000000000 ∷ of_bits binary64 0x0000000000000000 ∷ of_bits binary64 0xbf627624498b644d ∷ of_bits binary64 0xbf6843d91dbe0102 ∷
    of_bits binary64 0x0000000000000000 ∷ of_bits binary64 0x0000000000000000 ∷ of_bits binary64 0x0000000000000000 ∷ of_bits binary64 0x0000000000000000 ∷ of_bits binary64 0x0000000000000000 ∷
    of_bits binary64 0x3fa41c531cdd8658 ∷ of_bits binary64 0x3f8addecafc1234b ∷ of_bits binary64 0xbf5d2d77dd5c3c16 ∷ of_bits binary64 0x0000000000000000 ∷ of_bits binary64 0x0000000000000000 ∷
    of_bits binary64 0xbfd8f71eafee6fb5 ∷ of_bits binary64 0xbf9d28508121d38f ∷ of_bits binary64 0xc05375c28f5c28f6 ∷ of_bits binary64 0xbf50cf65d94db99c ∷ of_bits binary64 0x0000000000000000 ∷
    of_bits binary64 0xbf47ce32a873d20a ∷ of_bits binary64 0xbf76352e0a2979a1 ∷ of_bits binary64 0xbf76e8bced5bb88d ∷ of_bits binary64 0x3f8927913e81450f ∷ of_bits binary64 0x3f895e4027377c6e ∷
    of_bits binary64 0x3f7b653e483a2b75 ∷ of_bits binary64 0xbf85280d654350b8 ∷ of_bits binary64 0xbf837eb694513049 ∷ of_bits binary64 0x3f31b2335d3e6357 ∷ of_bits binary64 0xbf9a534d84ee10ea ∷
    of_bits binary64 0xbf8b1f255f3519bd ∷ of_bits binary64 0x0000000000000000 ∷ of_bits binary64 0xbfa381d7dbf487fd ∷ of_bits binary64 0xbf69f3fcbc7ea0f0 ∷ of_bits binary64 0x0000000000000000 ∷
    of_bits binary64 0x0000000000000000 ∷ of_bits binary64 0x0000000000000000 ∷ of_bits binary64 0x0000000000000000 ∷ of_bits binary64 0x0000000000000000 ∷ of_bits binary64 0x0000000000000000 ∷
    of_bits binary64 0x0000000000000000 ∷ of_bits binary64 0xbf4dae15157fb2d7 ∷ of_bits binary64 0xbf6194474a416cb2 ∷ of_bits binary64 0xbf534de59113e40e ∷ of_bits binary64 0x400d56abde3fbbd8 ∷
    of_bits binary64 0xbf38e2cba2e75c56 ∷ of_bits binary64 0xbf7925e66e89758a ∷ of_bits binary64 0xbf74da1c968ea245 ∷ of_bits binary64 0xbf60156166217216 ∷ of_bits binary64 0xbf694119a5c37388 ∷
    of_bits binary64 0xbf4ff4c14c54dc14 ∷ of_bits binary64 0x401021f212d77319 ∷ of_bits binary64 0xbfd02c669057d178 ∷ of_bits binary64 0x0000000000000000 ∷ of_bits binary64 0x0000000000000000 ∷
    of_bits binary64 0x0000000000000000 ∷ of_bits binary64 0x0000000000000000 ∷ of_bits binary64 0x0000000000000000 ∷ of_bits binary64 0x0000000000000000 ∷ of_bits binary64 0x0000000000000000 ∷
    of_bits binary64 0x0000000000000000 ∷ of_bits binary64 0x0000000000000000 ∷ of_bits binary64 0x0000000000000000 ∷ of_bits binary64 0x0000000000000000 ∷ of_bits binary64 0x0000000000000000 ∷
    of_bits binary64 0x0000000000000000 ∷ of_bits binary64 0x0000000000000000 ∷ of_bits binary64 0x0000000000000000 ∷ of_bits binary64 0x0000000000000000 ∷ of_bits binary64 0x0000000000000000 ∷ []

unfoldable pub pd_t2 : List Float
pd_t2 =
    of_bits binary64 0x3ff293f290abb44e ∷ of_bits binary64 0x0000000000000000 ∷ of_bits binary64 0x0000000000000000 ∷ of_bits binary64 0x3fa11633482be8bc ∷ of_bits binary64 0x0000000000000000 ∷
    of_bits binary64 0x3fa1d9a7a6a29698 ∷ of_bits binary64 0xbf764c1cb91e4439 ∷ of_bits binary64 0x0000000000000000 ∷ of_bits binary64 0xbfb140bbb1f255f3 ∷ of_bits binary64 0x3fc65e56cd6c2efd ∷
    of_bits binary64 0x0000000000000000 ∷ of_bits binary64 0x0000000000000000 ∷ of_bits binary64 0x0000000000000000 ∷ of_bits binary64 0x4065d6c8b4395810 ∷ of_bits binary64 0x0000000000000000 ∷
    of_bits binary64 0x3fc038c9752977c9 ∷ of_bits binary64 0x0000000000000000 ∷ of_bits binary64 0x4059c9db22d0e560 ∷ of_bits binary64 0x3fac44284dfce315 ∷ of_bits binary64 0x0000000000000000 ∷
    of_bits binary64 0x0000000000000000 ∷ of_bits binary64 0x3f4aa857a27e44a9 ∷ of_bits binary64 0x0000000000000000 ∷ of_bits binary64 0x0000000000000000 ∷ of_bits binary64 0x3fb6308e3d4504ed ∷
    of_bits binary64 0x3fc4512a94ff0026 ∷ of_bits binary64 0x0000000000000000 ∷ of_bits binary64 0x0000000000000000 ∷ of_bits binary64 0x0000000000000000 ∷ of_bits binary64 0x0000000000000000 ∷
    of_bits binary64 0x0000000000000000 ∷ of_bits binary64 0xc0390c56d5cfaace ∷ of_bits binary64 0x0000000000000000 ∷ of_bits binary64 0x0000000000000000 ∷ of_bits binary64 0x0000000000000000 ∷
    of_bits binary64 0x0000000000000000 ∷ of_bits binary64 0x0000000000000000 ∷ of_bits binary64 0x0000000000000000 ∷ of_bits binary64 0x0000000000000000 ∷ of_bits binary64 0xbf6463af7cdac70b ∷
    of_bits binary64 0x3f442fd3be69c3cf ∷ of_bits binary64 0xbf42ff02a16765b7 ∷ of_bits binary64 0x3f6834b4e87f85c7 ∷ of_bits binary64 0x3fb5aee7df77ca3c ∷ of_bits binary64 0x3fc5c7607c4199fe ∷
    of_bits binary64 0x0000000000000000 ∷ of_bits binary64 0x0000000000000000 ∷ of_bits binary64 0x0000000000000000 ∷ of_bits binary64 0x0000000000000000 ∷ of_bits binary64 0x0000000000000000 ∷
    of_bits binary64 0x0000000000000000 ∷ of_bits binary64 0x3ef9f1c3a73436e9 ∷ of_bits binary64 0x0000000000000000 ∷ of_bits binary64 0x0000000000000000 ∷ of_bits binary64 0x0000000000000000 ∷
    of_bits binary64 0x0000000000000000 ∷ of_bits binary64 0x0000000000000000 ∷ of_bits binary64 0x0000000000000000 ∷ of_bits binary64 0x0000000000000000 ∷ of_bits binary64 0x0000000000000000 ∷
    of_bits binary64 0x0000000000000000 ∷ of_bits binary64 0x0000000000000000 ∷ of_bits binary64 0x0000000000000000 ∷ of_bits binary64 0x0000000000000000 ∷ of_bits binary64 0x0000000000000000 ∷
    of_bits binary64 0x0000000000000000 ∷ of_bits binary64 0x0000000000000000 ∷ of_bits binary64 0x0000000000000000 ∷ of_bits binary64 0x0000000000000000 ∷ of_bits binary64 0x0000000000000000 ∷
    of_bits binary64 0x0000000000000000 ∷ of_bits binary64 0x0000000000000000 ∷ of_bits binary64 0x0000000000000000 ∷ of_bits binary64 0x0000000000000000 ∷ of_bits binary64 0x0000000000000000 ∷
    of_bits binary64 0x0000000000000000 ∷ of_bits binary64 0x0000000000000000 ∷ of_bits binary64 0x0000000000000000 ∷ of_bits binary64 0x0000000000000000 ∷ of_bits binary64 0x0000000000000000 ∷
    of_bits binary64 0x0000000000000000 ∷ of_bits binary64 0x0000000000000000 ∷ of_bits binary64 0x0000000000000000 ∷ of_bits binary64 0x0000000000000000 ∷ of_bits binary64 0x0000000000000000 ∷
    of_bits binary64 0x0000000000000000 ∷ of_bits binary64 0x0000000000000000 ∷ of_bits binary64 0x0000000000000000 ∷ of_bits binary64 0x0000000000000000 ∷ of_bits binary64 0x0000000000000000 ∷
    of_bits binary64 0x0000000000000000 ∷ of_bits binary64 0x0000000000000000 ∷ of_bits binary64 0x0000000000000000 ∷ of_bits binary64 0x0000000000000000 ∷ of_bits binary64 0x0000000000000000 ∷
    of_bits binary64 0x0000000000000000 ∷ of_bits binary64 0x0000000000000000 ∷ of_bits binary64 0x0000000000000000 ∷ of_bits binary64 0x0000000000000000 ∷ of_bits binary64 0x0000000000000000 ∷
    of_bits binary64 0x0000000000000000 ∷ of_bits binary64 0x0000000000000000 ∷ of_bits binary64 0x0000000000000000 ∷ of_bits binary64 0x0000000000000000 ∷ of_bits binary64 0x0000000000000000 ∷
    of_bits binary64 0x0000000000000000 ∷ of_bits binary64 0x0000000000000000 ∷ of_bits binary64 0x0000000000000000 ∷ of_bits binary64 0x0000000000000000 ∷ of_bits binary64 0x0000000000000000 ∷
    of_bits binary64 0x0000000000000000 ∷ of_bits binary64 0x0000000000000000 ∷ of_bits binary64 0x0000000000000000 ∷ of_bits binary64 0x0000000000000000 ∷ of_bits binary64 0x0000000000000000 ∷
    of_bits binary64 0x0000000000000000 ∷ of_bits binary64 0x0000000000000000 ∷ of_bits binary64 0x0000000000000000 ∷ of_bits binary64 0x0000000000000000 ∷ of_bits binary64 0x0000000000000000 ∷
    of_bits binary64 0x0000000000000000 ∷ of_bits binary64 0x0000000000000000 ∷ of_bits binary64 0x0000000000000000 ∷ of_bits binary64 0x0000000000000000 ∷ of_bits binary64 0x0000000000000000 ∷
    of_bits binary64 0x0000000000000000 ∷ of_bits binary64 0x0000000000000000 ∷ of_bits binary64 0x0000000000000000 ∷ of_bits binary64 0x0000000000000000 ∷ of_bits binary64 0x0000000000000000 ∷
    of_bits binary64 0x0000000000000000 ∷ of_bits binary64 0x0000000000000000 ∷ of_bits binary64 0x0000000000000000 ∷ of_bits binary64 0x0000000000000000 ∷ of_bits binary64 0x0000000000000000 ∷
    of_bits binary64 0x0000000000000000 ∷ of_bits binary64 0x0000000000000000 ∷ of_bits binary64 0x0000000000000000 ∷ of_bits binary64 0x0000000000000000 ∷ of_bits binary64 0x0000000000000000 ∷
    of_bits binary64 0x0000000000000000 ∷ of_bits binary64 0x0000000000000000 ∷ of_bits binary64 0x0000000000000000 ∷ of_bits binary64 0x0000000000000000 ∷ of_bits binary64 0x0000000000000000 ∷
    of_bits binary64 0x0000000000000000 ∷ of_bits binary64 0x0000000000000000 ∷ of_bits binary64 0x0000000000000000 ∷ of_bits binary64 0x0000000000000000 ∷ of_bits binary64 0x0000000000000000 ∷ []

unfoldable pub pd_t3 : List Float
pd_t3 =
    of_bits binary64 0x3fee3c2dadb8348f ∷ of_bits binary64 0x0000000000000000 ∷ of_bits binary64 0x0000000000000000 ∷ of_bits binary64 0xbf9f9a35a0cbbd02 ∷ of_bits binary64 0x0000000000000000 ∷
    of_bits binary64 0xbf98fccfc9d74f07 ∷ of_bits binary64 0x3f7a912328791af4 ∷ of_bits binary64 0x0000000000000000 ∷ of_bits binary64 0x3f9f8ec7ae7fdaac ∷ of_bits binary64 0x3fa78557c3357456 ∷
    of_bits binary64 0x0000000000000000 ∷ of_bits binary64 0x0000000000000000 ∷ of_bits binary64 0x0000000000000000 ∷ of_bits binary64 0x4065d6c8b4395810 ∷ of_bits binary64 0x0000000000000000 ∷
    of_bits binary64 0x3f95d67ba237cdcd ∷ of_bits binary64 0x0000000000000000 ∷ of_bits binary64 0xc0764f53f7ced917 ∷ of_bits binary64 0x0000000000000000 ∷ of_bits binary64 0x3f27e43c18f9badb ∷
    of_bits binary64 0x0000000000000000 ∷ of_bits binary64 0x3f3426862f372dc7 ∷ of_bits binary64 0x0000000000000000 ∷ of_bits binary64 0x0000000000000000 ∷ of_bits binary64 0x3fb6308e3d4504ed ∷
    of_bits binary64 0x3fc4512a94ff0026 ∷ of_bits binary64 0x0000000000000000 ∷ of_bits binary64 0x0000000000000000 ∷ of_bits binary64 0x0000000000000000 ∷ of_bits binary64 0x0000000000000000 ∷
    of_bits binary64 0x0000000000000000 ∷ of_bits binary64 0x0000000000000000 ∷ of_bits binary64 0x3f6f613980d5278f ∷ of_bits binary64 0x0000000000000000 ∷ of_bits binary64 0x0000000000000000 ∷
    of_bits binary64 0xbf5fa1bba70a9b64 ∷ of_bits binary64 0xbf57c584032f5f69 ∷ of_bits binary64 0x0000000000000000 ∷ of_bits binary64 0x0000000000000000 ∷ of_bits binary64 0x0000000000000000 ∷
    of_bits binary64 0x0000000000000000 ∷ of_bits binary64 0xbf543babfd9f5296 ∷ of_bits binary64 0x3f56671f9ed6c549 ∷ of_bits binary64 0x3fb5aee7df77ca3c ∷ of_bits binary64 0x3fc5c7607c4199fe ∷
    of_bits binary64 0x3f6e6e450212a9d1 ∷ of_bits binary64 0x0000000000000000 ∷ of_bits binary64 0x0000000000000000 ∷ of_bits binary64 0x0000000000000000 ∷ of_bits binary64 0x0000000000000000 ∷
    of_bits binary64 0x3f74e65bea0ba1f5 ∷ of_bits binary64 0x3ef9f1c3a73436e9 ∷ of_bits binary64 0x0000000000000000 ∷ of_bits binary64 0x0000000000000000 ∷ of_bits binary64 0x0000000000000000 ∷
    of_bits binary64 0x0000000000000000 ∷ of_bits binary64 0x0000000000000000 ∷ of_bits binary64 0x0000000000000000 ∷ of_bits binary64 0x0000000000000000 ∷ of_bits binary64 0x0000000000000000 ∷
    of_bits binary64 0x0000000000000000 ∷ of_bits binary64 0x0000000000000000 ∷ of_bits binary64 0x0000000000000000 ∷ of_bits binary64 0x0000000000000000 ∷ of_bits binary64 0x0000000000000000 ∷
    of_bits binary64 0x0000000000000000 ∷ of_bits binary64 0x0000000000000000 ∷ of_bits binary64 0x0000000000000000 ∷ of_bits binary64 0x0000000000000000 ∷ of_bits binary64 0x0000000000000000 ∷
    of_bits binary64 0x0000000000000000 ∷ of_bits binary64 0x0000000000000000 ∷ of_bits binary64 0x0000000000000000 ∷ of_bits binary64 0x0000000000000000 ∷ of_bits binary64 0x0000000000000000 ∷
    of_bits binary64 0x0000000000000000 ∷ of_bits binary64 0x0000000000000000 ∷ of_bits binary64 0x0000000000000000 ∷ of_bits binary64 0x0000000000000000 ∷ of_bits binary64 0x0000000000000000 ∷
    of_bits binary64 0x0000000000000000 ∷ of_bits binary64 0x0000000000000000 ∷ of_bits binary64 0x0000000000000000 ∷ of_bits binary64 0x0000000000000000 ∷ of_bits binary64 0x0000000000000000 ∷
    of_bits binary64 0x0000000000000000 ∷ of_bits binary64 0x0000000000000000 ∷ of_bits binary64 0x0000000000000000 ∷ of_bits binary64 0x0000000000000000 ∷ of_bits binary64 0x0000000000000000 ∷
    of_bits binary64 0x0000000000000000 ∷ of_bits binary64 0x0000000000000000 ∷ of_bits binary64 0x0000000000000000 ∷ of_bits binary64 0x0000000000000000 ∷ of_bits binary64 0x0000000000000000 ∷
    of_bits binary64 0x0000000000000000 ∷ of_bits binary64 0x3f6e355fb343e4b1 ∷ of_bits binary64 0x0000000000000000 ∷ of_bits binary64 0x0000000000000000 ∷ of_bits binary64 0x0000000000000000 ∷
    of_bits binary64 0x0000000000000000 ∷ of_bits binary64 0x0000000000000000 ∷ of_bits binary64 0x0000000000000000 ∷ of_bits binary64 0x0000000000000000 ∷ of_bits binary64 0x0000000000000000 ∷
    of_bits binary64 0x0000000000000000 ∷ of_bits binary64 0x0000000000000000 ∷ of_bits binary64 0x0000000000000000 ∷ of_bits binary64 0x0000000000000000 ∷ of_bits binary64 0x0000000000000000 ∷
    of_bits binary64 0x0000000000000000 ∷ of_bits binary64 0x0000000000000000 ∷ of_bits binary64 0x0000000000000000 ∷ of_bits binary64 0x0000000000000000 ∷ of_bits binary64 0x0000000000000000 ∷
    of_bits binary64 0x0000000000000000 ∷ of_bits binary64 0x0000000000000000 ∷ of_bits binary64 0x0000000000000000 ∷ of_bits binary64 0x0000000000000000 ∷ of_bits binary64 0x0000000000000000 ∷
    of_bits binary64 0x0000000000000000 ∷ of_bits binary64 0x0000000000000000 ∷ of_bits binary64 0x0000000000000000 ∷ of_bits binary64 0x0000000000000000 ∷ of_bits binary64 0x0000000000000000 ∷
    of_bits binary64 0x0000000000000000 ∷ of_bits binary64 0x0000000000000000 ∷ of_bits binary64 0x0000000000000000 ∷ of_bits binary64 0x0000000000000000 ∷ of_bits binary64 0x0000000000000000 ∷
    of_bits binary64 0x0000000000000000 ∷ of_bits binary64 0x0000000000000000 ∷ of_bits binary64 0x0000000000000000 ∷ of_bits binary64 0x0000000000000000 ∷ of_bits binary64 0x0000000000000000 ∷
    of_bits binary64 0x0000000000000000 ∷ of_bits binary64 0x0000000000000000 ∷ of_bits binary64 0x0000000000000000 ∷ of_bits binary64 0x0000000000000000 ∷ of_bits binary64 0x0000000000000000 ∷
    of_bits binary64 0x0000000000000000 ∷ of_bits binary64 0x0000000000000000 ∷ of_bits binary64 0x0000000000000000 ∷ of_bits binary64 0x0000000000000000 ∷ of_bits binary64 0x0000000000000000 ∷
    of_bits binary64 0x0000000000000000 ∷ of_bits binary64 0x0000000000000000 ∷ of_bits binary64 0x0000000000000000 ∷ of_bits binary64 0x0000000000000000 ∷ of_bits binary64 0x0000000000000000 ∷ []

unfoldable pub pd_t4 : List Float
pd_t4 =
    of_bits binary64 0x3ff5b15b573eab36 ∷ of_bits binary64 0x3fc28954a7f8012e ∷ of_bits binary64 0x0000000000000000 ∷ of_bits binary64 0x3faf1e1fa5b7b50e ∷ of_bits binary64 0x0000000000000000 ∷
    of_bits binary64 0x3f9e2f66f5d85ed1 ∷ of_bits binary64 0x3fb31ee2435696e6 ∷ of_bits binary64 0x0000000000000000 ∷ of_bits binary64 0xbfb7a65c1fbb872a ∷ of_bits binary64 0x3fb5f2ad312612b9 ∷
    of_bits binary64 0x0000000000000000 ∷ of_bits binary64 0x0000000000000000 ∷ of_bits binary64 0x0000000000000000 ∷ of_bits binary64 0x4037dd14e3bcd35b ∷ of_bits binary64 0x0000000000000000 ∷
    of_bits binary64 0x3fb3c11ae7e2d2c9 ∷ of_bits binary64 0x0000000000000000 ∷ of_bits binary64 0x40547801a36e2eb2 ∷ of_bits binary64 0x3f933962f81cdcb0 ∷ of_bits binary64 0x0000000000000000 ∷
    of_bits binary64 0x0000000000000000 ∷ of_bits binary64 0x3f8ea6dc783b7b00 ∷ of_bits binary64 0x0000000000000000 ∷ of_bits binary64 0x0000000000000000 ∷ of_bits binary64 0x3fb6308e3d4504ed ∷
    of_bits binary64 0x3fc4512a94ff0026 ∷ of_bits binary64 0x0000000000000000 ∷ of_bits binary64 0x0000000000000000 ∷ of_bits binary64 0x0000000000000000 ∷ of_bits binary64 0x0000000000000000 ∷
    of_bits binary64 0x0000000000000000 ∷ of_bits binary64 0xc076fdfbe76c8b44 ∷ of_bits binary64 0x3f7673da6d495990 ∷ of_bits binary64 0x0000000000000000 ∷ of_bits binary64 0x0000000000000000 ∷
    of_bits binary64 0x0000000000000000 ∷ of_bits binary64 0x0000000000000000 ∷ of_bits binary64 0x0000000000000000 ∷ of_bits binary64 0x0000000000000000 ∷ of_bits binary64 0x0000000000000000 ∷
    of_bits binary64 0x0000000000000000 ∷ of_bits binary64 0x0000000000000000 ∷ of_bits binary64 0x0000000000000000 ∷ of_bits binary64 0x3fb5aee7df77ca3c ∷ of_bits binary64 0x3fc5c7607c4199fe ∷
    of_bits binary64 0x3f891d656b94a391 ∷ of_bits binary64 0x0000000000000000 ∷ of_bits binary64 0x0000000000000000 ∷ of_bits binary64 0x0000000000000000 ∷ of_bits binary64 0x0000000000000000 ∷
    of_bits binary64 0x3f80bc69d32d6411 ∷ of_bits binary64 0x3f037bc24a103a22 ∷ of_bits binary64 0x0000000000000000 ∷ of_bits binary64 0x0000000000000000 ∷ of_bits binary64 0x0000000000000000 ∷
    of_bits binary64 0x0000000000000000 ∷ of_bits binary64 0x0000000000000000 ∷ of_bits binary64 0x0000000000000000 ∷ of_bits binary64 0x0000000000000000 ∷ of_bits binary64 0x0000000000000000 ∷
    of_bits binary64 0x0000000000000000 ∷ of_bits binary64 0x0000000000000000 ∷ of_bits binary64 0x0000000000000000 ∷ of_bits binary64 0x0000000000000000 ∷ of_bits binary64 0xbf614557780c003e ∷
    of_bits binary64 0xbf69b181edab69a6 ∷ of_bits binary64 0x0000000000000000 ∷ of_bits binary64 0x0000000000000000 ∷ of_bits binary64 0x0000000000000000 ∷ of_bits binary64 0x0000000000000000 ∷
    of_bits binary64 0x0000000000000000 ∷ of_bits binary64 0x0000000000000000 ∷ of_bits binary64 0x0000000000000000 ∷ of_bits binary64 0x0000000000000000 ∷ of_bits binary64 0x0000000000000000 ∷
    of_bits binary64 0x0000000000000000 ∷ of_bits binary64 0x0000000000000000 ∷ of_bits binary64 0x0000000000000000 ∷ of_bits binary64 0x0000000000000000 ∷ of_bits binary64 0x0000000000000000 ∷
    of_bits binary64 0x0000000000000000 ∷ of_bits binary64 0x0000000000000000 ∷ of_bits binary64 0x0000000000000000 ∷ of_bits binary64 0x0000000000000000 ∷ of_bits binary64 0x0000000000000000 ∷
    of_bits binary64 0x0000000000000000 ∷ of_bits binary64 0x0000000000000000 ∷ of_bits binary64 0x0000000000000000 ∷ of_bits binary64 0x0000000000000000 ∷ of_bits binary64 0x0000000000000000 ∷
    of_bits binary64 0xbfb2d5c23ed45126 ∷ of_bits binary64 0xbfa99d1625dc329b ∷ of_bits binary64 0x0000000000000000 ∷ of_bits binary64 0x0000000000000000 ∷ of_bits binary64 0x0000000000000000 ∷
    of_bits binary64 0x0000000000000000 ∷ of_bits binary64 0x3f93f6e3f78bbd38 ∷ of_bits binary64 0x0000000000000000 ∷ of_bits binary64 0x0000000000000000 ∷ of_bits binary64 0x0000000000000000 ∷
    of_bits binary64 0x0000000000000000 ∷ of_bits binary64 0x0000000000000000 ∷ of_bits binary64 0x0000000000000000 ∷ of_bits binary64 0x0000000000000000 ∷ of_bits binary64 0x0000000000000000 ∷
    of_bits binary64 0x0000000000000000 ∷ of_bits binary64 0x0000000000000000 ∷ of_bits binary64 0x0000000000000000 ∷ of_bits binary64 0x0000000000000000 ∷ of_bits binary64 0x0000000000000000 ∷
    of_bits binary64 0x0000000000000000 ∷ of_bits binary64 0x0000000000000000 ∷ of_bits binary64 0x0000000000000000 ∷ of_bits binary64 0x0000000000000000 ∷ of_bits binary64 0x0000000000000000 ∷
    of_bits binary64 0x0000000000000000 ∷ of_bits binary64 0x0000000000000000 ∷ of_bits binary64 0x0000000000000000 ∷ of_bits binary64 0x0000000000000000 ∷ of_bits binary64 0x0000000000000000 ∷
    of_bits binary64 0x0000000000000000 ∷ of_bits binary64 0x0000000000000000 ∷ of_bits binary64 0x0000000000000000 ∷ of_bits binary64 0x0000000000000000 ∷ of_bits binary64 0x0000000000000000 ∷
    of_bits binary64 0x0000000000000000 ∷ of_bits binary64 0x0000000000000000 ∷ of_bits binary64 0x0000000000000000 ∷ of_bits binary64 0x0000000000000000 ∷ of_bits binary64 0x0000000000000000 ∷
    of_bits binary64 0x0000000000000000 ∷ of_bits binary64 0x0000000000000000 ∷ of_bits binary64 0x0000000000000000 ∷ of_bits binary64 0x0000000000000000 ∷ of_bits binary64 0x0000000000000000 ∷
    of_bits binary64 0x0000000000000000 ∷ of_bits binary64 0x0000000000000000 ∷ of_bits binary64 0x0000000000000000 ∷ of_bits binary64 0x0000000000000000 ∷ of_bits binary64 0x0000000000000000 ∷
    of_bits binary64 0x0000000000000000 ∷ of_bits binary64 0x0000000000000000 ∷ of_bits binary64 0x0000000000000000 ∷ of_bits binary64 0x0000000000000000 ∷ of_bits binary64 0x0000000000000000 ∷
    of_bits binary64 0x0000000000000000 ∷ of_bits binary64 0x0000000000000000 ∷ of_bits binary64 0x0000000000000000 ∷ of_bits binary64 0x0000000000000000 ∷ of_bits binary64 0x0000000000000000 ∷ []

unfoldable pub pd_t5 : List Float
pd_t5 =
    of_bits binary64 0x3ff0c302b40f66a5 ∷ of_bits binary64 0x3fc99f01b866e43b ∷ of_bits binary64 0x3fce6cdaf4adbc66 ∷ of_bits binary64 0x3fa2deaf4d600523 ∷ of_bits binary64 0x0000000000000000 ∷
    of_bits binary64 0x3fa249eb059cf7f3 ∷ of_bits binary64 0xbfcb66cf41f212d7 ∷ of_bits binary64 0x0000000000000000 ∷ of_bits binary64 0xbfbba71151611ba4 ∷ of_bits binary64 0xbfd7ef4e0114d2f6 ∷
    of_bits binary64 0x0000000000000000 ∷ of_bits binary64 0x3f9fbf0a6c6a8c66 ∷ of_bits binary64 0xbf530e2f6dabd506 ∷ of_bits binary64 0xc034c27525460aa6 ∷ of_bits binary64 0x0000000000000000 ∷
    of_bits binary64 0x3fb62199adbb8f8e ∷ of_bits binary64 0x0000000000000000 ∷ of_bits binary64 0x40585f694467381d ∷ of_bits binary64 0x3faa7494fd52a696 ∷ of_bits binary64 0x0000000000000000 ∷
    of_bits binary64 0x0000000000000000 ∷ of_bits binary64 0x0000000000000000 ∷ of_bits binary64 0x0000000000000000 ∷ of_bits binary64 0x0000000000000000 ∷ of_bits binary64 0x3fb6308e3d4504ed ∷
    of_bits binary64 0x3fc4512a94ff0026 ∷ of_bits binary64 0x0000000000000000 ∷ of_bits binary64 0x0000000000000000 ∷ of_bits binary64 0x0000000000000000 ∷ of_bits binary64 0x0000000000000000 ∷
    of_bits binary64 0x0000000000000000 ∷ of_bits binary64 0x4075a316872b020c ∷ of_bits binary64 0x3f8b8107d25c58c6 ∷ of_bits binary64 0x0000000000000000 ∷ of_bits binary64 0x0000000000000000 ∷
    of_bits binary64 0x0000000000000000 ∷ of_bits binary64 0x0000000000000000 ∷ of_bits binary64 0x0000000000000000 ∷ of_bits binary64 0x0000000000000000 ∷ of_bits binary64 0xbf6c8cc3725b1149 ∷
    of_bits binary64 0xbf2446806460ca12 ∷ of_bits binary64 0x0000000000000000 ∷ of_bits binary64 0x0000000000000000 ∷ of_bits binary64 0x3fb5aee7df77ca3c ∷ of_bits binary64 0x3fc5c7607c4199fe ∷
    of_bits binary64 0x3f8e4283324f07a5 ∷ of_bits binary64 0x0000000000000000 ∷ of_bits binary64 0x0000000000000000 ∷ of_bits binary64 0x0000000000000000 ∷ of_bits binary64 0x0000000000000000 ∷
    of_bits binary64 0x3f9362e90364388f ∷ of_bits binary64 0x3f034da448803ead ∷ of_bits binary64 0x3f8b267c6b8b6955 ∷ of_bits binary64 0x0000000000000000 ∷ of_bits binary64 0x0000000000000000 ∷
    of_bits binary64 0x3f6d77daad0a39c0 ∷ of_bits binary64 0x3f7e7cd842ccae44 ∷ of_bits binary64 0xbf506344c8dcd32a ∷ of_bits binary64 0xc0b96947ae147ae1 ∷ of_bits binary64 0x0000000000000000 ∷
    of_bits binary64 0x3f853198288051ca ∷ of_bits binary64 0xbf508b88b4c4ee31 ∷ of_bits binary64 0xbf70aad2d1f47eed ∷ of_bits binary64 0xc050858793dd97f6 ∷ of_bits binary64 0xbf9190a27a12eb95 ∷
    of_bits binary64 0x3f86a6e32e3821af ∷ of_bits binary64 0x3f88a32f44912989 ∷ of_bits binary64 0xbf754cf3a3a637e3 ∷ of_bits binary64 0x0000000000000000 ∷ of_bits binary64 0x0000000000000000 ∷
    of_bits binary64 0x0000000000000000 ∷ of_bits binary64 0x0000000000000000 ∷ of_bits binary64 0x0000000000000000 ∷ of_bits binary64 0x0000000000000000 ∷ of_bits binary64 0x0000000000000000 ∷
    of_bits binary64 0xc0a4876147ae147b ∷ of_bits binary64 0x3f7d3c437d2d5249 ∷ of_bits binary64 0x3f711f09858fcc66 ∷ of_bits binary64 0x0000000000000000 ∷ of_bits binary64 0x40c8978000000000 ∷
    of_bits binary64 0x0000000000000000 ∷ of_bits binary64 0x0000000000000000 ∷ of_bits binary64 0x0000000000000000 ∷ of_bits binary64 0xbf6251208404061f ∷ of_bits binary64 0x3f72d9b99a4007ad ∷
    of_bits binary64 0x3f776bb1d4cecedb ∷ of_bits binary64 0x0000000000000000 ∷ of_bits binary64 0x0000000000000000 ∷ of_bits binary64 0x0000000000000000 ∷ of_bits binary64 0x0000000000000000 ∷
    of_bits binary64 0xbfa04cb768b7797e ∷ of_bits binary64 0xbf981e2c3af16d96 ∷ of_bits binary64 0xbf8be439d0dc2606 ∷ of_bits binary64 0x0000000000000000 ∷ of_bits binary64 0x0000000000000000 ∷
    of_bits binary64 0x0000000000000000 ∷ of_bits binary64 0x3f94d735059b4a74 ∷ of_bits binary64 0xc050b228240b7803 ∷ of_bits binary64 0xbf51fa287a9d8003 ∷ of_bits binary64 0x0000000000000000 ∷
    of_bits binary64 0xbf8c6e37ebff97fb ∷ of_bits binary64 0x3f906e9284d26238 ∷ of_bits binary64 0x0000000000000000 ∷ of_bits binary64 0x0000000000000000 ∷ of_bits binary64 0x0000000000000000 ∷
    of_bits binary64 0x0000000000000000 ∷ of_bits binary64 0x0000000000000000 ∷ of_bits binary64 0x0000000000000000 ∷ of_bits binary64 0x0000000000000000 ∷ of_bits binary64 0x3f8f0ad7ca56d0c7 ∷
    of_bits binary64 0xbf41d7586bfcd350 ∷ of_bits binary64 0x0000000000000000 ∷ of_bits binary64 0x3fb2a47d226a8e13 ∷ of_bits binary64 0x3fb0e1876ef4aa61 ∷ of_bits binary64 0x0000000000000000 ∷
    of_bits binary64 0xbf751f6c2bf82b75 ∷ of_bits binary64 0x0000000000000000 ∷ of_bits binary64 0x0000000000000000 ∷ of_bits binary64 0xc0acef570a3d70a4 ∷ of_bits binary64 0x0000000000000000 ∷
    of_bits binary64 0x0000000000000000 ∷ of_bits binary64 0x3f8be12f5a609ea6 ∷ of_bits binary64 0x3f760af175a39b25 ∷ of_bits binary64 0x0000000000000000 ∷ of_bits binary64 0x40130d288ce703b0 ∷
    of_bits binary64 0xbf91fd4463dd1f2a ∷ of_bits binary64 0x3f972c584d9eef44 ∷ of_bits binary64 0x0000000000000000 ∷ of_bits binary64 0x3f921646936247f4 ∷ of_bits binary64 0x3f738b67fd95419b ∷
    of_bits binary64 0x0000000000000000 ∷ of_bits binary64 0x401592fc2656abde ∷ of_bits binary64 0x0000000000000000 ∷ of_bits binary64 0xbf7eca402a927ac1 ∷ of_bits binary64 0x0000000000000000 ∷
    of_bits binary64 0x0000000000000000 ∷ of_bits binary64 0xc0561182a9930be1 ∷ of_bits binary64 0x0000000000000000 ∷ of_bits binary64 0x0000000000000000 ∷ of_bits binary64 0x0000000000000000 ∷
    of_bits binary64 0x0000000000000000 ∷ of_bits binary64 0x0000000000000000 ∷ of_bits binary64 0x0000000000000000 ∷ of_bits binary64 0x0000000000000000 ∷ of_bits binary64 0x0000000000000000 ∷
    of_bits binary64 0x0000000000000000 ∷ of_bits binary64 0x0000000000000000 ∷ of_bits binary64 0x0000000000000000 ∷ of_bits binary64 0x0000000000000000 ∷ of_bits binary64 0x0000000000000000 ∷ []

unfoldable pub pd_t6 : List Float
pd_t6 =
    of_bits binary64 0x3ff4385c67dfe32a ∷ of_bits binary64 0xbfcb6e503fb37436 ∷ of_bits binary64 0xbfc332acfb762d84 ∷ of_bits binary64 0x3fcd7de0d66f0cfe ∷ of_bits binary64 0x3f9e8a1aa095365e ∷
    of_bits binary64 0x3f9b8319fb53c8d5 ∷ of_bits binary64 0x3fd2f566490a350d ∷ of_bits binary64 0x3f96b8f9b13165d4 ∷ of_bits binary64 0xbf95438d1d8a5482 ∷ of_bits binary64 0x3fdcf5dbb9cf9a07 ∷
    of_bits binary64 0x3fbebf3387160957 ∷ of_bits binary64 0x3fa09c3ce2089e34 ∷ of_bits binary64 0x3fa5c025f55d0ecf ∷ of_bits binary64 0xc022494855da2728 ∷ of_bits binary64 0x0000000000000000 ∷
    of_bits binary64 0x3f994f9f7a842a9d ∷ of_bits binary64 0xbf9d83c01380e644 ∷ of_bits binary64 0x405451f3b645a1cb ∷ of_bits binary64 0x3faa21a719b4dcec ∷ of_bits binary64 0xbf77c825c912581c ∷
    of_bits binary64 0x3efa5810a54e3495 ∷ of_bits binary64 0xbf896985d59776aa ∷ of_bits binary64 0x0000000000000000 ∷ of_bits binary64 0x0000000000000000 ∷ of_bits binary64 0x3fb6308e3d4504ed ∷
    of_bits binary64 0x3fc4512a94ff0026 ∷ of_bits binary64 0xbfa1d3cbc48f10aa ∷ of_bits binary64 0x0000000000000000 ∷ of_bits binary64 0x0000000000000000 ∷ of_bits binary64 0x3efe658a8d260795 ∷
    of_bits binary64 0x0000000000000000 ∷ of_bits binary64 0x4063330a3d70a3d7 ∷ of_bits binary64 0xbf9143da4a63d161 ∷ of_bits binary64 0x0000000000000000 ∷ of_bits binary64 0x3f84b018611fd588 ∷
    of_bits binary64 0x0000000000000000 ∷ of_bits binary64 0x0000000000000000 ∷ of_bits binary64 0x0000000000000000 ∷ of_bits binary64 0x0000000000000000 ∷ of_bits binary64 0x3f32a5fd88b4f878 ∷
    of_bits binary64 0xbf5404a47f7bb62f ∷ of_bits binary64 0x0000000000000000 ∷ of_bits binary64 0x0000000000000000 ∷ of_bits binary64 0x3fb5aee7df77ca3c ∷ of_bits binary64 0x3fc5c7607c4199fe ∷
    of_bits binary64 0xbf857d325ac61f34 ∷ of_bits binary64 0x0000000000000000 ∷ of_bits binary64 0x0000000000000000 ∷ of_bits binary64 0x0000000000000000 ∷ of_bits binary64 0xbf78385dbf78d14d ∷
    of_bits binary64 0xbf979a7206ad992b ∷ of_bits binary64 0x3f00809c40bf9819 ∷ of_bits binary64 0x0000000000000000 ∷ of_bits binary64 0x0000000000000000 ∷ of_bits binary64 0x3f8a0026966cbe6f ∷
    of_bits binary64 0x3f811c5e5a7e50be ∷ of_bits binary64 0x3f34598b2e135b1e ∷ of_bits binary64 0x0000000000000000 ∷ of_bits binary64 0x40aaba6147ae147b ∷ of_bits binary64 0xbf64126100a0e4bd ∷
    of_bits binary64 0xbf3bfe7475d9dd12 ∷ of_bits binary64 0x3f41dd110173e23f ∷ of_bits binary64 0x3f5f1cd0c62b9de9 ∷ of_bits binary64 0x403ce97f62b6ae7d ∷ of_bits binary64 0xbf7a9f75fc8678d5 ∷
    of_bits binary64 0xbf93d9cae21101b0 ∷ of_bits binary64 0xbf8e6941e2f95efc ∷ of_bits binary64 0x0000000000000000 ∷ of_bits binary64 0xbfaa2438c46cabfb ∷ of_bits binary64 0x3fb427b04831c7f9 ∷
    of_bits binary64 0x3fb85ee716242eb3 ∷ of_bits binary64 0xc0cd2f199999999a ∷ of_bits binary64 0x0000000000000000 ∷ of_bits binary64 0x0000000000000000 ∷ of_bits binary64 0x0000000000000000 ∷
    of_bits binary64 0x4070980c49ba5e35 ∷ of_bits binary64 0x0000000000000000 ∷ of_bits binary64 0x0000000000000000 ∷ of_bits binary64 0x0000000000000000 ∷ of_bits binary64 0x0000000000000000 ∷
    of_bits binary64 0x0000000000000000 ∷ of_bits binary64 0x0000000000000000 ∷ of_bits binary64 0x0000000000000000 ∷ of_bits binary64 0x3f7a1895223b942b ∷ of_bits binary64 0x3f35490e2212e094 ∷
    of_bits binary64 0x0000000000000000 ∷ of_bits binary64 0x0000000000000000 ∷ of_bits binary64 0x0000000000000000 ∷ of_bits binary64 0x0000000000000000 ∷ of_bits binary64 0x0000000000000000 ∷
    of_bits binary64 0x3faf73698428184d ∷ of_bits binary64 0x3f848e97ddd7b70c ∷ of_bits binary64 0xbf4b8f83fd365d45 ∷ of_bits binary64 0x0000000000000000 ∷ of_bits binary64 0x0000000000000000 ∷
    of_bits binary64 0x0000000000000000 ∷ of_bits binary64 0xbf8a07a5e6aef622 ∷ of_bits binary64 0x0000000000000000 ∷ of_bits binary64 0x0000000000000000 ∷ of_bits binary64 0x0000000000000000 ∷
    of_bits binary64 0xbf702432645640d4 ∷ of_bits binary64 0xbf8a56656762e5a8 ∷ of_bits binary64 0xbf8055ce12c803ba ∷ of_bits binary64 0x0000000000000000 ∷ of_bits binary64 0x0000000000000000 ∷
    of_bits binary64 0x0000000000000000 ∷ of_bits binary64 0x0000000000000000 ∷ of_bits binary64 0x0000000000000000 ∷ of_bits binary64 0x0000000000000000 ∷ of_bits binary64 0x0000000000000000 ∷
    of_bits binary64 0x0000000000000000 ∷ of_bits binary64 0x0000000000000000 ∷ of_bits binary64 0x0000000000000000 ∷ of_bits binary64 0x0000000000000000 ∷ of_bits binary64 0x0000000000000000 ∷
    of_bits binary64 0x0000000000000000 ∷ of_bits binary64 0x0000000000000000 ∷ of_bits binary64 0x0000000000000000 ∷ of_bits binary64 0x0000000000000000 ∷ of_bits binary64 0x0000000000000000 ∷
    of_bits binary64 0x0000000000000000 ∷ of_bits binary64 0xbf7b80d22277234d ∷ of_bits binary64 0xbf5bd1e2e1363b50 ∷ of_bits binary64 0x3f5fbf6301d7f16e ∷ of_bits binary64 0x400e7dbf487fcb92 ∷
    of_bits binary64 0xbf7feb72aa41878a ∷ of_bits binary64 0xbf92b276097198ca ∷ of_bits binary64 0xbf89c6b053198288 ∷ of_bits binary64 0xbf855ce68ae3f431 ∷ of_bits binary64 0xbf68c7269a9e7c57 ∷
    of_bits binary64 0x3f63e9668b7a4719 ∷ of_bits binary64 0x400d0f1800a7c5ac ∷ of_bits binary64 0x0000000000000000 ∷ of_bits binary64 0x0000000000000000 ∷ of_bits binary64 0x0000000000000000 ∷
    of_bits binary64 0x0000000000000000 ∷ of_bits binary64 0x0000000000000000 ∷ of_bits binary64 0x0000000000000000 ∷ of_bits binary64 0x0000000000000000 ∷ of_bits binary64 0x0000000000000000 ∷
    of_bits binary64 0x0000000000000000 ∷ of_bits binary64 0x0000000000000000 ∷ of_bits binary64 0x0000000000000000 ∷ of_bits binary64 0x0000000000000000 ∷ of_bits binary64 0x0000000000000000 ∷
    of_bits binary64 0x0000000000000000 ∷ of_bits binary64 0x0000000000000000 ∷ of_bits binary64 0x0000000000000000 ∷ of_bits binary64 0x0000000000000000 ∷ of_bits binary64 0x0000000000000000 ∷ []

unfoldable pub pd_t7 : List Float
pd_t7 =
    of_bits binary64 0x4051bd2a30553261 ∷ of_bits binary64 0xbfd4e94ee392e1ef ∷ of_bits binary64 0x0000000000000000 ∷ of_bits binary64 0xbfe089dcf893faf4 ∷ of_bits binary64 0xbf5c201c2a2d2527 ∷
    of_bits binary64 0x3fb7474107314ca9 ∷ of_bits binary64 0xbfe57ced916872b0 ∷ of_bits binary64 0xbfc2ea28fe260b2d ∷ of_bits binary64 0xbfb7be46214c80e2 ∷ of_bits binary64 0xbfcd8ce2d1f1cfbc ∷
    of_bits binary64 0xbfc4053e2d6238da ∷ of_bits binary64 0x3f8b8950763a1901 ∷ of_bits binary64 0xbfbea5c5f7c6759b ∷ of_bits binary64 0x40042c0d6f544bb2 ∷ of_bits binary64 0x0000000000000000 ∷
    of_bits binary64 0xbfceec28b2a6b0d9 ∷ of_bits binary64 0x3fae5bc522b45fee ∷ of_bits binary64 0x40119719f7f8ca82 ∷ of_bits binary64 0x3fb76e6106ab14ec ∷ of_bits binary64 0x3f72134831471fcf ∷
    of_bits binary64 0x0000000000000000 ∷ of_bits binary64 0x3f81c090a95b02b0 ∷ of_bits binary64 0x0000000000000000 ∷ of_bits binary64 0x0000000000000000 ∷ of_bits binary64 0x3fb6308e3d4504ed ∷
    of_bits binary64 0x3fc4512a94ff0026 ∷ of_bits binary64 0x3fb8f3ccebd67d50 ∷ of_bits binary64 0x0000000000000000 ∷ of_bits binary64 0x0000000000000000 ∷ of_bits binary64 0x0000000000000000 ∷
    of_bits binary64 0x0000000000000000 ∷ of_bits binary64 0x4050c163886594af ∷ of_bits binary64 0xbf5592387c484ffb ∷ of_bits binary64 0x0000000000000000 ∷ of_bits binary64 0xbf90edaf9b639e35 ∷
    of_bits binary64 0x0000000000000000 ∷ of_bits binary64 0x0000000000000000 ∷ of_bits binary64 0x3fb5c42dc1da2a83 ∷ of_bits binary64 0x403bbe28240b7803 ∷ of_bits binary64 0x3f746ccee04d5d2b ∷
    of_bits binary64 0x3f7931f2c1531c07 ∷ of_bits binary64 0x3f83758dcbb01734 ∷ of_bits binary64 0xbf95c867e33e285a ∷ of_bits binary64 0x3fb5aee7df77ca3c ∷ of_bits binary64 0x3fc5c7607c4199fe ∷
    of_bits binary64 0xbf986fef7c243dcd ∷ of_bits binary64 0x0000000000000000 ∷ of_bits binary64 0x0000000000000000 ∷ of_bits binary64 0x0000000000000000 ∷ of_bits binary64 0x3f568222848f465a ∷
    of_bits binary64 0xbf813e133612b691 ∷ of_bits binary64 0x3efd6015c7f0f884 ∷ of_bits binary64 0x3f7d2de08df4cac3 ∷ of_bits binary64 0x0000000000000000 ∷ of_bits binary64 0xbf910511b7b86892 ∷
    of_bits binary64 0x3f1b23fb656f232c ∷ of_bits binary64 0xbf914b8f4a8b3e8d ∷ of_bits binary64 0x0000000000000000 ∷ of_bits binary64 0x40ac7a851eb851ec ∷ of_bits binary64 0x0000000000000000 ∷
    of_bits binary64 0x3f7aca7e93d9bc1e ∷ of_bits binary64 0x3f3830f947293457 ∷ of_bits binary64 0x3f504ae545586891 ∷ of_bits binary64 0x405511f06f694467 ∷ of_bits binary64 0xbf87c83df1d31693 ∷
    of_bits binary64 0xbf7fb851c09200f4 ∷ of_bits binary64 0xbf5ba9d4a53355c3 ∷ of_bits binary64 0x3f5765d7f620ae20 ∷ of_bits binary64 0xbf5f9d1e895802f6 ∷ of_bits binary64 0x3fbe027525460aa6 ∷
    of_bits binary64 0xbf98bb1798a2f995 ∷ of_bits binary64 0x40cd660ccccccccd ∷ of_bits binary64 0x0000000000000000 ∷ of_bits binary64 0x0000000000000000 ∷ of_bits binary64 0x0000000000000000 ∷
    of_bits binary64 0x40990a70a3d70a3d ∷ of_bits binary64 0x0000000000000000 ∷ of_bits binary64 0x0000000000000000 ∷ of_bits binary64 0x0000000000000000 ∷ of_bits binary64 0x0000000000000000 ∷
    of_bits binary64 0x0000000000000000 ∷ of_bits binary64 0x0000000000000000 ∷ of_bits binary64 0x0000000000000000 ∷ of_bits binary64 0xbf3739e54b6b2fc6 ∷ of_bits binary64 0xbf932d2bb23571d2 ∷
    of_bits binary64 0x0000000000000000 ∷ of_bits binary64 0x0000000000000000 ∷ of_bits binary64 0x0000000000000000 ∷ of_bits binary64 0x0000000000000000 ∷ of_bits binary64 0x0000000000000000 ∷
    of_bits binary64 0x3f9c4eaeb9bc4ed0 ∷ of_bits binary64 0x3f7a5883a4bab4f2 ∷ of_bits binary64 0xbfa223e186983516 ∷ of_bits binary64 0x0000000000000000 ∷ of_bits binary64 0x0000000000000000 ∷
    of_bits binary64 0x0000000000000000 ∷ of_bits binary64 0xbf9cb1d34c42ceb2 ∷ of_bits binary64 0x405447dbf487fcb9 ∷ of_bits binary64 0xbf462073121b6084 ∷ of_bits binary64 0x0000000000000000 ∷
    of_bits binary64 0xbf85898478a024ce ∷ of_bits binary64 0xbf6c88366fd3a27f ∷ of_bits binary64 0xbf7c8ff0ce5ec837 ∷ of_bits binary64 0x0000000000000000 ∷ of_bits binary64 0x0000000000000000 ∷
    of_bits binary64 0x0000000000000000 ∷ of_bits binary64 0x0000000000000000 ∷ of_bits binary64 0x0000000000000000 ∷ of_bits binary64 0x0000000000000000 ∷ of_bits binary64 0x0000000000000000 ∷
    of_bits binary64 0x0000000000000000 ∷ of_bits binary64 0x0000000000000000 ∷ of_bits binary64 0x0000000000000000 ∷ of_bits binary64 0x0000000000000000 ∷ of_bits binary64 0x0000000000000000 ∷
    of_bits binary64 0x0000000000000000 ∷ of_bits binary64 0x0000000000000000 ∷ of_bits binary64 0x0000000000000000 ∷ of_bits binary64 0x0000000000000000 ∷ of_bits binary64 0x0000000000000000 ∷
    of_bits binary64 0x0000000000000000 ∷ of_bits binary64 0xbf57d8a44670d2a6 ∷ of_bits binary64 0xbf8b07075b3e1438 ∷ of_bits binary64 0xbf6d4e950e6f8472 ∷ of_bits binary64 0xbff171800a7c5ac4 ∷
    of_bits binary64 0xbf8ec1cf42c8d26c ∷ of_bits binary64 0xbf7d32adfd28e01e ∷ of_bits binary64 0xbf7b38bb32709594 ∷ of_bits binary64 0xbf6ce2c485d66e36 ∷ of_bits binary64 0xbf933a5b45a0f401 ∷
    of_bits binary64 0xbf6238bcb4fca17c ∷ of_bits binary64 0xbfd935935fc3b4f6 ∷ of_bits binary64 0x0000000000000000 ∷ of_bits binary64 0x0000000000000000 ∷ of_bits binary64 0x0000000000000000 ∷
    of_bits binary64 0x0000000000000000 ∷ of_bits binary64 0x0000000000000000 ∷ of_bits binary64 0x0000000000000000 ∷ of_bits binary64 0x0000000000000000 ∷ of_bits binary64 0x0000000000000000 ∷
    of_bits binary64 0x0000000000000000 ∷ of_bits binary64 0x0000000000000000 ∷ of_bits binary64 0x0000000000000000 ∷ of_bits binary64 0x0000000000000000 ∷ of_bits binary64 0x0000000000000000 ∷
    of_bits binary64 0x0000000000000000 ∷ of_bits binary64 0x0000000000000000 ∷ of_bits binary64 0x0000000000000000 ∷ of_bits binary64 0x0000000000000000 ∷ of_bits binary64 0x0000000000000000 ∷ []

unfoldable pub pd_t8 : List Float
pd_t8 =
    of_bits binary64 0x3faeed6777079e5a ∷ of_bits binary64 0x3ff9201cd5f99c39 ∷ of_bits binary64 0x3f9ea8402589fd44 ∷ of_bits binary64 0x0000000000000000 ∷ of_bits binary64 0x0000000000000000 ∷
    of_bits binary64 0x0000000000000000 ∷ of_bits binary64 0x0000000000000000 ∷ of_bits binary64 0x0000000000000000 ∷ of_bits binary64 0x0000000000000000 ∷ of_bits binary64 0xbff829b280f12c28 ∷
    of_bits binary64 0x0000000000000000 ∷ of_bits binary64 0x0000000000000000 ∷ of_bits binary64 0x0000000000000000 ∷ of_bits binary64 0xc0213ba5e353f7cf ∷ of_bits binary64 0x3f89e5d4db8f076f ∷
    of_bits binary64 0x0000000000000000 ∷ of_bits binary64 0x0000000000000000 ∷ of_bits binary64 0x0000000000000000 ∷ of_bits binary64 0x0000000000000000 ∷ of_bits binary64 0x0000000000000000 ∷
    of_bits binary64 0x0000000000000000 ∷ of_bits binary64 0x3f76905fdf0dc20a ∷ of_bits binary64 0x0000000000000000 ∷ of_bits binary64 0x0000000000000000 ∷ of_bits binary64 0x3fb6308e3d4504ed ∷
    of_bits binary64 0x3fc4512a94ff0026 ∷ of_bits binary64 0x0000000000000000 ∷ of_bits binary64 0x0000000000000000 ∷ of_bits binary64 0x0000000000000000 ∷ of_bits binary64 0x0000000000000000 ∷
    of_bits binary64 0x0000000000000000 ∷ of_bits binary64 0x0000000000000000 ∷ of_bits binary64 0x3faff1554251b428 ∷ of_bits binary64 0x0000000000000000 ∷ of_bits binary64 0x0000000000000000 ∷
    of_bits binary64 0x0000000000000000 ∷ of_bits binary64 0x0000000000000000 ∷ of_bits binary64 0x0000000000000000 ∷ of_bits binary64 0x0000000000000000 ∷ of_bits binary64 0x0000000000000000 ∷
    of_bits binary64 0x0000000000000000 ∷ of_bits binary64 0x0000000000000000 ∷ of_bits binary64 0x0000000000000000 ∷ of_bits binary64 0x3fb5aee7df77ca3c ∷ of_bits binary64 0x3fc5c7607c4199fe ∷
    of_bits binary64 0xbfb83745e76addc4 ∷ of_bits binary64 0x0000000000000000 ∷ of_bits binary64 0x0000000000000000 ∷ of_bits binary64 0x0000000000000000 ∷ of_bits binary64 0x0000000000000000 ∷
    of_bits binary64 0x0000000000000000 ∷ of_bits binary64 0x0000000000000000 ∷ of_bits binary64 0x0000000000000000 ∷ of_bits binary64 0x0000000000000000 ∷ of_bits binary64 0x0000000000000000 ∷
    of_bits binary64 0x0000000000000000 ∷ of_bits binary64 0x0000000000000000 ∷ of_bits binary64 0x0000000000000000 ∷ of_bits binary64 0x0000000000000000 ∷ of_bits binary64 0x0000000000000000 ∷
    of_bits binary64 0x0000000000000000 ∷ of_bits binary64 0x0000000000000000 ∷ of_bits binary64 0x0000000000000000 ∷ of_bits binary64 0x0000000000000000 ∷ of_bits binary64 0x0000000000000000 ∷
    of_bits binary64 0x0000000000000000 ∷ of_bits binary64 0x0000000000000000 ∷ of_bits binary64 0x0000000000000000 ∷ of_bits binary64 0x0000000000000000 ∷ of_bits binary64 0x0000000000000000 ∷
    of_bits binary64 0x0000000000000000 ∷ of_bits binary64 0x0000000000000000 ∷ of_bits binary64 0x0000000000000000 ∷ of_bits binary64 0x0000000000000000 ∷ of_bits binary64 0x0000000000000000 ∷
    of_bits binary64 0x0000000000000000 ∷ of_bits binary64 0x0000000000000000 ∷ of_bits binary64 0x0000000000000000 ∷ of_bits binary64 0x0000000000000000 ∷ of_bits binary64 0x0000000000000000 ∷
    of_bits binary64 0x0000000000000000 ∷ of_bits binary64 0x0000000000000000 ∷ of_bits binary64 0x0000000000000000 ∷ of_bits binary64 0x0000000000000000 ∷ of_bits binary64 0x0000000000000000 ∷
    of_bits binary64 0x0000000000000000 ∷ of_bits binary64 0x0000000000000000 ∷ of_bits binary64 0x0000000000000000 ∷ of_bits binary64 0x0000000000000000 ∷ of_bits binary64 0x0000000000000000 ∷
    of_bits binary64 0x0000000000000000 ∷ of_bits binary64 0x0000000000000000 ∷ of_bits binary64 0x0000000000000000 ∷ of_bits binary64 0x0000000000000000 ∷ of_bits binary64 0x0000000000000000 ∷
    of_bits binary64 0x0000000000000000 ∷ of_bits binary64 0x0000000000000000 ∷ of_bits binary64 0x0000000000000000 ∷ of_bits binary64 0x0000000000000000 ∷ of_bits binary64 0x0000000000000000 ∷
    of_bits binary64 0x0000000000000000 ∷ of_bits binary64 0x0000000000000000 ∷ of_bits binary64 0x0000000000000000 ∷ of_bits binary64 0x0000000000000000 ∷ of_bits binary64 0x0000000000000000 ∷
    of_bits binary64 0x0000000000000000 ∷ of_bits binary64 0x0000000000000000 ∷ of_bits binary64 0x0000000000000000 ∷ of_bits binary64 0x0000000000000000 ∷ of_bits binary64 0x0000000000000000 ∷
    of_bits binary64 0x0000000000000000 ∷ of_bits binary64 0x0000000000000000 ∷ of_bits binary64 0x0000000000000000 ∷ of_bits binary64 0x0000000000000000 ∷ of_bits binary64 0x0000000000000000 ∷
    of_bits binary64 0x0000000000000000 ∷ of_bits binary64 0x0000000000000000 ∷ of_bits binary64 0x0000000000000000 ∷ of_bits binary64 0x0000000000000000 ∷ of_bits binary64 0x0000000000000000 ∷
    of_bits binary64 0x0000000000000000 ∷ of_bits binary64 0x0000000000000000 ∷ of_bits binary64 0x0000000000000000 ∷ of_bits binary64 0x0000000000000000 ∷ of_bits binary64 0x0000000000000000 ∷
    of_bits binary64 0x0000000000000000 ∷ of_bits binary64 0x0000000000000000 ∷ of_bits binary64 0x0000000000000000 ∷ of_bits binary64 0x0000000000000000 ∷ of_bits binary64 0x0000000000000000 ∷
    of_bits binary64 0x0000000000000000 ∷ of_bits binary64 0x0000000000000000 ∷ of_bits binary64 0x0000000000000000 ∷ of_bits binary64 0x0000000000000000 ∷ of_bits binary64 0x0000000000000000 ∷
    of_bits binary64 0x0000000000000000 ∷ of_bits binary64 0x0000000000000000 ∷ of_bits binary64 0x0000000000000000 ∷ of_bits binary64 0x0000000000000000 ∷ of_bits binary64 0x0000000000000000 ∷
    of_bits binary64 0x0000000000000000 ∷ of_bits binary64 0x0000000000000000 ∷ of_bits binary64 0x0000000000000000 ∷ of_bits binary64 0x0000000000000000 ∷ of_bits binary64 0x0000000000000000 ∷
    of_bits binary64 0x0000000000000000 ∷ of_bits binary64 0x0000000000000000 ∷ of_bits binary64 0x0000000000000000 ∷ of_bits binary64 0x0000000000000000 ∷ of_bits binary64 0x0000000000000000 ∷ []

-- PS. Shape of the temperature profile.
unfoldable pub ps_t : List Float
ps_t =
    of_bits binary64 0x3fee9e53a81dc0db ∷ of_bits binary64 0x3fafc6d033899a48 ∷ of_bits binary64 0x3fa04dc3d83184dd ∷ of_bits binary64 0x0000000000000000 ∷ of_bits binary64 0x0000000000000000 ∷
    of_bits binary64 0x3fa438088509bf9c ∷ of_bits binary64 0x0000000000000000 ∷ of_bits binary64 0x0000000000000000 ∷ of_bits binary64 0xbf82f10b9b69a865 ∷ of_bits binary64 0xbf8042f7a161ba04 ∷
    of_bits binary64 0x0000000000000000 ∷ of_bits binary64 0x0000000000000000 ∷ of_bits binary64 0x0000000000000000 ∷ of_bits binary64 0x4065d6c8b4395810 ∷ of_bits binary64 0x0000000000000000 ∷
    of_bits binary64 0x0000000000000000 ∷ of_bits binary64 0x0000000000000000 ∷ of_bits binary64 0x0000000000000000 ∷ of_bits binary64 0x0000000000000000 ∷ of_bits binary64 0x0000000000000000 ∷
    of_bits binary64 0x0000000000000000 ∷ of_bits binary64 0x3f668064ea3a70ea ∷ of_bits binary64 0x0000000000000000 ∷ of_bits binary64 0x3f8fbbe51dfc6a49 ∷ of_bits binary64 0x3fb6308e3d4504ed ∷
    of_bits binary64 0x3fc4512a94ff0026 ∷ of_bits binary64 0x0000000000000000 ∷ of_bits binary64 0x0000000000000000 ∷ of_bits binary64 0x0000000000000000 ∷ of_bits binary64 0x0000000000000000 ∷
    of_bits binary64 0x0000000000000000 ∷ of_bits binary64 0x0000000000000000 ∷ of_bits binary64 0x0000000000000000 ∷ of_bits binary64 0xbf46e7b21a32caf2 ∷ of_bits binary64 0x0000000000000000 ∷
    of_bits binary64 0x0000000000000000 ∷ of_bits binary64 0x0000000000000000 ∷ of_bits binary64 0x0000000000000000 ∷ of_bits binary64 0x0000000000000000 ∷ of_bits binary64 0x0000000000000000 ∷
    of_bits binary64 0x0000000000000000 ∷ of_bits binary64 0x3f897826824ac87b ∷ of_bits binary64 0xbf75a86894690324 ∷ of_bits binary64 0x3fb5aee7df77ca3c ∷ of_bits binary64 0x3fc5c7607c4199fe ∷
    of_bits binary64 0x0000000000000000 ∷ of_bits binary64 0x0000000000000000 ∷ of_bits binary64 0x0000000000000000 ∷ of_bits binary64 0x0000000000000000 ∷ of_bits binary64 0x0000000000000000 ∷
    of_bits binary64 0x0000000000000000 ∷ of_bits binary64 0x3ef9f1c3a73436e9 ∷ of_bits binary64 0x0000000000000000 ∷ of_bits binary64 0x0000000000000000 ∷ of_bits binary64 0x0000000000000000 ∷
    of_bits binary64 0x0000000000000000 ∷ of_bits binary64 0x0000000000000000 ∷ of_bits binary64 0x0000000000000000 ∷ of_bits binary64 0x0000000000000000 ∷ of_bits binary64 0x0000000000000000 ∷
    of_bits binary64 0x0000000000000000 ∷ of_bits binary64 0x0000000000000000 ∷ of_bits binary64 0x0000000000000000 ∷ of_bits binary64 0x0000000000000000 ∷ of_bits binary64 0x0000000000000000 ∷
    of_bits binary64 0x0000000000000000 ∷ of_bits binary64 0x0000000000000000 ∷ of_bits binary64 0x0000000000000000 ∷ of_bits binary64 0x0000000000000000 ∷ of_bits binary64 0x0000000000000000 ∷
    of_bits binary64 0x0000000000000000 ∷ of_bits binary64 0x0000000000000000 ∷ of_bits binary64 0x0000000000000000 ∷ of_bits binary64 0x0000000000000000 ∷ of_bits binary64 0x0000000000000000 ∷
    of_bits binary64 0x0000000000000000 ∷ of_bits binary64 0x0000000000000000 ∷ of_bits binary64 0x0000000000000000 ∷ of_bits binary64 0x0000000000000000 ∷ of_bits binary64 0x0000000000000000 ∷
    of_bits binary64 0x0000000000000000 ∷ of_bits binary64 0x0000000000000000 ∷ of_bits binary64 0x0000000000000000 ∷ of_bits binary64 0x0000000000000000 ∷ of_bits binary64 0x0000000000000000 ∷
    of_bits binary64 0x0000000000000000 ∷ of_bits binary64 0x0000000000000000 ∷ of_bits binary64 0x0000000000000000 ∷ of_bits binary64 0x0000000000000000 ∷ of_bits binary64 0x0000000000000000 ∷
    of_bits binary64 0x0000000000000000 ∷ of_bits binary64 0x0000000000000000 ∷ of_bits binary64 0x0000000000000000 ∷ of_bits binary64 0x0000000000000000 ∷ of_bits binary64 0x0000000000000000 ∷
    of_bits binary64 0x0000000000000000 ∷ of_bits binary64 0x0000000000000000 ∷ of_bits binary64 0x0000000000000000 ∷ of_bits binary64 0x0000000000000000 ∷ of_bits binary64 0x0000000000000000 ∷
    of_bits binary64 0x0000000000000000 ∷ of_bits binary64 0x0000000000000000 ∷ of_bits binary64 0x0000000000000000 ∷ of_bits binary64 0x0000000000000000 ∷ of_bits binary64 0x0000000000000000 ∷
    of_bits binary64 0x0000000000000000 ∷ of_bits binary64 0x0000000000000000 ∷ of_bits binary64 0x0000000000000000 ∷ of_bits binary64 0x0000000000000000 ∷ of_bits binary64 0x0000000000000000 ∷
    of_bits binary64 0x0000000000000000 ∷ of_bits binary64 0x0000000000000000 ∷ of_bits binary64 0x0000000000000000 ∷ of_bits binary64 0x0000000000000000 ∷ of_bits binary64 0x0000000000000000 ∷
    of_bits binary64 0x0000000000000000 ∷ of_bits binary64 0x0000000000000000 ∷ of_bits binary64 0x0000000000000000 ∷ of_bits binary64 0x0000000000000000 ∷ of_bits binary64 0x0000000000000000 ∷
    of_bits binary64 0x0000000000000000 ∷ of_bits binary64 0x0000000000000000 ∷ of_bits binary64 0x0000000000000000 ∷ of_bits binary64 0x0000000000000000 ∷ of_bits binary64 0x0000000000000000 ∷
    of_bits binary64 0x0000000000000000 ∷ of_bits binary64 0x0000000000000000 ∷ of_bits binary64 0x0000000000000000 ∷ of_bits binary64 0x0000000000000000 ∷ of_bits binary64 0x0000000000000000 ∷
    of_bits binary64 0x0000000000000000 ∷ of_bits binary64 0x0000000000000000 ∷ of_bits binary64 0x0000000000000000 ∷ of_bits binary64 0x0000000000000000 ∷ of_bits binary64 0x0000000000000000 ∷
    of_bits binary64 0x0000000000000000 ∷ of_bits binary64 0x0000000000000000 ∷ of_bits binary64 0x0000000000000000 ∷ of_bits binary64 0x0000000000000000 ∷ of_bits binary64 0x0000000000000000 ∷
    of_bits binary64 0x0000000000000000 ∷ of_bits binary64 0x0000000000000000 ∷ of_bits binary64 0x0000000000000000 ∷ of_bits binary64 0x0000000000000000 ∷ of_bits binary64 0x0000000000000000 ∷
    of_bits binary64 0x0000000000000000 ∷ of_bits binary64 0x0000000000000000 ∷ of_bits binary64 0x0000000000000000 ∷ of_bits binary64 0x0000000000000000 ∷ of_bits binary64 0x0000000000000000 ∷ []

-- PDL. Corrections of the densities' profiles.
unfoldable pub pdl_t0 : List Float
pdl_t0 =
    of_bits binary64 0x3ff196bb98c7e282 ∷ of_bits binary64 0x400f401f75104d55 ∷ of_bits binary64 0x400892bd3c361134 ∷ of_bits binary64 0x3fef8ea18372e6a7 ∷ of_bits binary64 0x40305a858793dd98 ∷
    of_bits binary64 0x40128d9e83e425af ∷ of_bits binary64 0x3ff0000000000000 ∷ of_bits binary64 0x0000000000000000 ∷ of_bits binary64 0x0000000000000000 ∷ of_bits binary64 0x0000000000000000 ∷
    of_bits binary64 0x0000000000000000 ∷ of_bits binary64 0x0000000000000000 ∷ of_bits binary64 0x0000000000000000 ∷ of_bits binary64 0x0000000000000000 ∷ of_bits binary64 0x0000000000000000 ∷
    of_bits binary64 0x0000000000000000 ∷ of_bits binary64 0x0000000000000000 ∷ of_bits binary64 0x0000000000000000 ∷ of_bits binary64 0x0000000000000000 ∷ of_bits binary64 0x0000000000000000 ∷
    of_bits binary64 0x0000000000000000 ∷ of_bits binary64 0x0000000000000000 ∷ of_bits binary64 0x3ff49d495182a993 ∷ of_bits binary64 0x3f9fc66178c0dbfe ∷ of_bits binary64 0x3fbe4b76f6d76252 ∷ []

unfoldable pub pdl_t1 : List Float
pdl_t1 =
    of_bits binary64 0x3ff0000000000000 ∷ of_bits binary64 0x3fe6666666666666 ∷ of_bits binary64 0x3ff267381d7dbf48 ∷ of_bits binary64 0x400b933b10774688 ∷ of_bits binary64 0x3ff49d495182a993 ∷
    of_bits binary64 0x3ff0000000000000 ∷ of_bits binary64 0x3ff165e892253112 ∷ of_bits binary64 0x3ff3abe8bc169c24 ∷ of_bits binary64 0x3ff19a415f45e0b5 ∷ of_bits binary64 0x3fe77dfc19c17226 ∷
    of_bits binary64 0x3ff2704577d95571 ∷ of_bits binary64 0x4001d29dc725c3df ∷ of_bits binary64 0x3fe971044f1a1987 ∷ of_bits binary64 0x40101081c2e33eff ∷ of_bits binary64 0x4011e8f32378ab0d ∷
    of_bits binary64 0x405edbd70a3d70a4 ∷ of_bits binary64 0xbfb3783dff3f0fe0 ∷ of_bits binary64 0x3ebc59e4b824eed3 ∷ of_bits binary64 0x3fe7d141a6937d20 ∷ of_bits binary64 0x3ff0939eadd590c1 ∷
    of_bits binary64 0x4065990e56041893 ∷ of_bits binary64 0x3ff267381d7dbf48 ∷ of_bits binary64 0x400b933b10774688 ∷ of_bits binary64 0xbfe7e11dbca9691a ∷ of_bits binary64 0x3fee5f78359bc340 ∷ []

-- PTM. Mean temperatures.
unfoldable pub ptm_t : List Float
ptm_t =
    of_bits binary64 0x4090453333333333 ∷ of_bits binary64 0x4078200000000000 ∷ of_bits binary64 0x4068600000000000 ∷ of_bits binary64 0x4030ac3c9eecbfb1 ∷ of_bits binary64 0x406aa00000000000 ∷
    of_bits binary64 0x405e000000000000 ∷ of_bits binary64 0x406e000000000000 ∷ of_bits binary64 0x4067600000000000 ∷ of_bits binary64 0xc000000000000000 ∷ of_bits binary64 0x0000000000000000 ∷ []

-- PDM. Mean densities and altitudes, one row a species: He, O, N2, O2, Ar, H, N, anomalous O.
unfoldable pub pdm_t0 : List Float
pdm_t0 =
    of_bits binary64 0x41776c1800000000 ∷ of_bits binary64 0x3edc2594aaed8d0a ∷ of_bits binary64 0x4059000000000000 ∷ of_bits binary64 0x0000000000000000 ∷ of_bits binary64 0x405b800000000000 ∷
    of_bits binary64 0x4024000000000000 ∷ of_bits binary64 0x0000000000000000 ∷ of_bits binary64 0x0000000000000000 ∷ of_bits binary64 0x0000000000000000 ∷ of_bits binary64 0x0000000000000000 ∷ []

unfoldable pub pdm_t1 : List Float
pdm_t1 =
    of_bits binary64 0x4234026c55000000 ∷ of_bits binary64 0x3ff0000000000000 ∷ of_bits binary64 0x405a400000000000 ∷ of_bits binary64 0xc020000000000000 ∷ of_bits binary64 0x405b800000000000 ∷
    of_bits binary64 0x4024000000000000 ∷ of_bits binary64 0x4056800000000000 ∷ of_bits binary64 0x4000000000000000 ∷ of_bits binary64 0x0000000000000000 ∷ of_bits binary64 0x0000000000000000 ∷ []

unfoldable pub pdm_t2 : List Float
pdm_t2 =
    of_bits binary64 0x42505b39ee800000 ∷ of_bits binary64 0x0000000000000000 ∷ of_bits binary64 0x405a400000000000 ∷ of_bits binary64 0x403c000000000000 ∷ of_bits binary64 0x403cf33333333333 ∷
    of_bits binary64 0x0000000000000000 ∷ of_bits binary64 0x0000000000000000 ∷ of_bits binary64 0x0000000000000000 ∷ of_bits binary64 0x0000000000000000 ∷ of_bits binary64 0x0000000000000000 ∷ []

unfoldable pub pdm_t3 : List Float
pdm_t3 =
    of_bits binary64 0x421ebbd028000000 ∷ of_bits binary64 0x3fd12b55ef1fddec ∷ of_bits binary64 0x405a400000000000 ∷ of_bits binary64 0x3ff0000000000000 ∷ of_bits binary64 0x405b800000000000 ∷
    of_bits binary64 0x4024000000000000 ∷ of_bits binary64 0x405b800000000000 ∷ of_bits binary64 0xc024000000000000 ∷ of_bits binary64 0x0000000000000000 ∷ of_bits binary64 0x0000000000000000 ∷ []

unfoldable pub pdm_t4 : List Float
pdm_t4 =
    of_bits binary64 0x41d3d18c20000000 ∷ of_bits binary64 0x3f887f455a7d2418 ∷ of_bits binary64 0x405a400000000000 ∷ of_bits binary64 0x0000000000000000 ∷ of_bits binary64 0x405b800000000000 ∷
    of_bits binary64 0x4024000000000000 ∷ of_bits binary64 0x0000000000000000 ∷ of_bits binary64 0x0000000000000000 ∷ of_bits binary64 0x0000000000000000 ∷ of_bits binary64 0x0000000000000000 ∷ []

unfoldable pub pdm_t5 : List Float
pdm_t5 =
    of_bits binary64 0x41057f2000000000 ∷ of_bits binary64 0x3ff0000000000000 ∷ of_bits binary64 0x4057c00000000000 ∷ of_bits binary64 0xc020000000000000 ∷ of_bits binary64 0x405b800000000000 ∷
    of_bits binary64 0x4024000000000000 ∷ of_bits binary64 0x4056800000000000 ∷ of_bits binary64 0x4000000000000000 ∷ of_bits binary64 0x0000000000000000 ∷ of_bits binary64 0x0000000000000000 ∷ []

unfoldable pub pdm_t6 : List Float
pdm_t6 =
    of_bits binary64 0x416312d000000000 ∷ of_bits binary64 0x3ff0000000000000 ∷ of_bits binary64 0x405a400000000000 ∷ of_bits binary64 0xc020000000000000 ∷ of_bits binary64 0x405b800000000000 ∷
    of_bits binary64 0x4024000000000000 ∷ of_bits binary64 0x4056800000000000 ∷ of_bits binary64 0x4000000000000000 ∷ of_bits binary64 0x0000000000000000 ∷ of_bits binary64 0x0000000000000000 ∷ []

unfoldable pub pdm_t7 : List Float
pdm_t7 =
    of_bits binary64 0x412e848000000000 ∷ of_bits binary64 0x3ff0000000000000 ∷ of_bits binary64 0x405a400000000000 ∷ of_bits binary64 0xc020000000000000 ∷ of_bits binary64 0x4081300000000000 ∷
    of_bits binary64 0x4053000000000000 ∷ of_bits binary64 0x4056800000000000 ∷ of_bits binary64 0x4000000000000000 ∷ of_bits binary64 0x0000000000000000 ∷ of_bits binary64 0x40af400000000000 ∷ []

-- PTL. Temperatures of the lower thermosphere's nodes, one row a node.
unfoldable pub ptl_t0 : List Float
ptl_t0 =
    of_bits binary64 0x3ff02324c8366517 ∷ of_bits binary64 0x3fa759070252c097 ∷ of_bits binary64 0xbf96d513c32b635b ∷ of_bits binary64 0xbfabdf670344581f ∷ of_bits binary64 0x3f412462017440bc ∷
    of_bits binary64 0xbf9356902f8d8c45 ∷ of_bits binary64 0x3faad05517898981 ∷ of_bits binary64 0xbf83536c38b8584c ∷ of_bits binary64 0x3f79dfed90e79957 ∷ of_bits binary64 0xbfb3fad2999567dc ∷
    of_bits binary64 0xbfa901f31f46ed24 ∷ of_bits binary64 0x0000000000000000 ∷ of_bits binary64 0x0000000000000000 ∷ of_bits binary64 0xc01e68f5c28f5c29 ∷ of_bits binary64 0x0000000000000000 ∷
    of_bits binary64 0xbf8d9f0a1be2b496 ∷ of_bits binary64 0xbf921bd5489c5104 ∷ of_bits binary64 0xc05e6116872b020c ∷ of_bits binary64 0x3f9d40109147bb80 ∷ of_bits binary64 0x0000000000000000 ∷
    of_bits binary64 0x0000000000000000 ∷ of_bits binary64 0x3f44b3dafd2afd49 ∷ of_bits binary64 0x0000000000000000 ∷ of_bits binary64 0x3f77a4596622c9af ∷ of_bits binary64 0x3fb6308e3d4504ed ∷
    of_bits binary64 0x3fc4512a94ff0026 ∷ of_bits binary64 0x0000000000000000 ∷ of_bits binary64 0x0000000000000000 ∷ of_bits binary64 0x0000000000000000 ∷ of_bits binary64 0x0000000000000000 ∷
    of_bits binary64 0x0000000000000000 ∷ of_bits binary64 0xc0c1635c28f5c28f ∷ of_bits binary64 0x3f6b156a4a769bbe ∷ of_bits binary64 0x3f68c101927c43f3 ∷ of_bits binary64 0x0000000000000000 ∷
    of_bits binary64 0xbf61810c2f0d5eb8 ∷ of_bits binary64 0xbf3507f9f4783774 ∷ of_bits binary64 0x0000000000000000 ∷ of_bits binary64 0x0000000000000000 ∷ of_bits binary64 0x3f669cda40d3afc0 ∷
    of_bits binary64 0x3f67242e887e9430 ∷ of_bits binary64 0xbf3380c3e855470d ∷ of_bits binary64 0xbf71441ab71077f2 ∷ of_bits binary64 0x3fb5aee7df77ca3c ∷ of_bits binary64 0x3fc5c7607c4199fe ∷
    of_bits binary64 0x3f825c02e02f2a3a ∷ of_bits binary64 0x0000000000000000 ∷ of_bits binary64 0xbf863d8ed6c7f852 ∷ of_bits binary64 0x0000000000000000 ∷ of_bits binary64 0x0000000000000000 ∷
    of_bits binary64 0x3f76da2f0b056ca6 ∷ of_bits binary64 0x0000000000000000 ∷ of_bits binary64 0x0000000000000000 ∷ of_bits binary64 0x0000000000000000 ∷ of_bits binary64 0x0000000000000000 ∷
    of_bits binary64 0x0000000000000000 ∷ of_bits binary64 0x0000000000000000 ∷ of_bits binary64 0x0000000000000000 ∷ of_bits binary64 0x0000000000000000 ∷ of_bits binary64 0x0000000000000000 ∷
    of_bits binary64 0x0000000000000000 ∷ of_bits binary64 0x0000000000000000 ∷ of_bits binary64 0x0000000000000000 ∷ of_bits binary64 0x0000000000000000 ∷ of_bits binary64 0x0000000000000000 ∷
    of_bits binary64 0x0000000000000000 ∷ of_bits binary64 0x0000000000000000 ∷ of_bits binary64 0x0000000000000000 ∷ of_bits binary64 0x0000000000000000 ∷ of_bits binary64 0x0000000000000000 ∷
    of_bits binary64 0x0000000000000000 ∷ of_bits binary64 0x0000000000000000 ∷ of_bits binary64 0x0000000000000000 ∷ of_bits binary64 0x0000000000000000 ∷ of_bits binary64 0x0000000000000000 ∷
    of_bits binary64 0x0000000000000000 ∷ of_bits binary64 0x0000000000000000 ∷ of_bits binary64 0x0000000000000000 ∷ of_bits binary64 0x0000000000000000 ∷ of_bits binary64 0x0000000000000000 ∷
    of_bits binary64 0x0000000000000000 ∷ of_bits binary64 0x0000000000000000 ∷ of_bits binary64 0x0000000000000000 ∷ of_bits binary64 0x0000000000000000 ∷ of_bits binary64 0x0000000000000000 ∷
    of_bits binary64 0x0000000000000000 ∷ of_bits binary64 0x0000000000000000 ∷ of_bits binary64 0x0000000000000000 ∷ of_bits binary64 0x0000000000000000 ∷ of_bits binary64 0x0000000000000000 ∷
    of_bits binary64 0x0000000000000000 ∷ of_bits binary64 0x0000000000000000 ∷ of_bits binary64 0x0000000000000000 ∷ of_bits binary64 0x0000000000000000 ∷ of_bits binary64 0x0000000000000000 ∷
    of_bits binary64 0x0000000000000000 ∷ of_bits binary64 0x3f83c580a8310c12 ∷ of_bits binary64 0x0000000000000000 ∷ of_bits binary64 0x0000000000000000 ∷ of_bits binary64 0x4000000000000000 ∷ []

unfoldable pub ptl_t1 : List Float
ptl_t1 =
    of_bits binary64 0x3fee11ba3ca7503c ∷ of_bits binary64 0x3fb5ed4009db4b15 ∷ of_bits binary64 0xbf7bda3392a9905d ∷ of_bits binary64 0x3f9b3b2b4f392337 ∷ of_bits binary64 0xbf736d37bbd9099c ∷
    of_bits binary64 0x3f88f4b61fe21d97 ∷ of_bits binary64 0xbf96019b0ab2e169 ∷ of_bits binary64 0x3f7a9c159fcf68b3 ∷ of_bits binary64 0xbf950a74ce08362f ∷ of_bits binary64 0xbfa5c1ee4c795556 ∷
    of_bits binary64 0x0000000000000000 ∷ of_bits binary64 0x0000000000000000 ∷ of_bits binary64 0x0000000000000000 ∷ of_bits binary64 0x4027d460aa64c2f8 ∷ of_bits binary64 0x0000000000000000 ∷
    of_bits binary64 0x3f885355e869e145 ∷ of_bits binary64 0xbfb2a4873365881a ∷ of_bits binary64 0xc054662d0e560419 ∷ of_bits binary64 0x3f91ce57e747a256 ∷ of_bits binary64 0x0000000000000000 ∷
    of_bits binary64 0x0000000000000000 ∷ of_bits binary64 0x0000000000000000 ∷ of_bits binary64 0xbf8da1f9ba6ba139 ∷ of_bits binary64 0x3f325df73d49f3a5 ∷ of_bits binary64 0x3fb6308e3d4504ed ∷
    of_bits binary64 0x3fc4512a94ff0026 ∷ of_bits binary64 0x0000000000000000 ∷ of_bits binary64 0x0000000000000000 ∷ of_bits binary64 0x0000000000000000 ∷ of_bits binary64 0x0000000000000000 ∷
    of_bits binary64 0x0000000000000000 ∷ of_bits binary64 0x406b12b020c49ba6 ∷ of_bits binary64 0x3f6a1be563c77aa8 ∷ of_bits binary64 0x3f7e35071dd67fa9 ∷ of_bits binary64 0x0000000000000000 ∷
    of_bits binary64 0xbf64e41d765d7f62 ∷ of_bits binary64 0xbf7016de93c9a0f3 ∷ of_bits binary64 0x0000000000000000 ∷ of_bits binary64 0x0000000000000000 ∷ of_bits binary64 0xbf67bca50c696fdb ∷
    of_bits binary64 0xbf55e17377f1d418 ∷ of_bits binary64 0x3f50d1ea180c3b4d ∷ of_bits binary64 0x3f372f5c0e1dcff5 ∷ of_bits binary64 0x3fb5aee7df77ca3c ∷ of_bits binary64 0x3fc5c7607c4199fe ∷
    of_bits binary64 0xbf82ca53a0bbf7bd ∷ of_bits binary64 0x0000000000000000 ∷ of_bits binary64 0x0000000000000000 ∷ of_bits binary64 0x0000000000000000 ∷ of_bits binary64 0x0000000000000000 ∷
    of_bits binary64 0x3f6d2b94ae4d5ad2 ∷ of_bits binary64 0x0000000000000000 ∷ of_bits binary64 0x0000000000000000 ∷ of_bits binary64 0x0000000000000000 ∷ of_bits binary64 0x0000000000000000 ∷
    of_bits binary64 0x0000000000000000 ∷ of_bits binary64 0x0000000000000000 ∷ of_bits binary64 0x0000000000000000 ∷ of_bits binary64 0x0000000000000000 ∷ of_bits binary64 0x0000000000000000 ∷
    of_bits binary64 0x0000000000000000 ∷ of_bits binary64 0x0000000000000000 ∷ of_bits binary64 0x0000000000000000 ∷ of_bits binary64 0x0000000000000000 ∷ of_bits binary64 0x0000000000000000 ∷
    of_bits binary64 0x0000000000000000 ∷ of_bits binary64 0x0000000000000000 ∷ of_bits binary64 0x0000000000000000 ∷ of_bits binary64 0x0000000000000000 ∷ of_bits binary64 0x0000000000000000 ∷
    of_bits binary64 0x0000000000000000 ∷ of_bits binary64 0x0000000000000000 ∷ of_bits binary64 0x0000000000000000 ∷ of_bits binary64 0x0000000000000000 ∷ of_bits binary64 0x0000000000000000 ∷
    of_bits binary64 0x0000000000000000 ∷ of_bits binary64 0x0000000000000000 ∷ of_bits binary64 0x0000000000000000 ∷ of_bits binary64 0x0000000000000000 ∷ of_bits binary64 0x0000000000000000 ∷
    of_bits binary64 0x0000000000000000 ∷ of_bits binary64 0x0000000000000000 ∷ of_bits binary64 0x0000000000000000 ∷ of_bits binary64 0x0000000000000000 ∷ of_bits binary64 0x0000000000000000 ∷
    of_bits binary64 0x0000000000000000 ∷ of_bits binary64 0x0000000000000000 ∷ of_bits binary64 0x0000000000000000 ∷ of_bits binary64 0x0000000000000000 ∷ of_bits binary64 0x0000000000000000 ∷
    of_bits binary64 0x0000000000000000 ∷ of_bits binary64 0x0000000000000000 ∷ of_bits binary64 0x0000000000000000 ∷ of_bits binary64 0x0000000000000000 ∷ of_bits binary64 0x0000000000000000 ∷
    of_bits binary64 0x0000000000000000 ∷ of_bits binary64 0xbf84aa2bb814aee4 ∷ of_bits binary64 0x0000000000000000 ∷ of_bits binary64 0x0000000000000000 ∷ of_bits binary64 0x4000000000000000 ∷ []

unfoldable pub ptl_t2 : List Float
ptl_t2 =
    of_bits binary64 0x3fef8d2a1f8e3ac1 ∷ of_bits binary64 0xbfa7517a46173b86 ∷ of_bits binary64 0x3f88cd71377ac090 ∷ of_bits binary64 0x3f94e7111bb1366e ∷ of_bits binary64 0xbf63bab26dfbdc04 ∷
    of_bits binary64 0x3f86cfad51dd4266 ∷ of_bits binary64 0xbfa7237c060adbfc ∷ of_bits binary64 0x3f8ba9c48a082c1e ∷ of_bits binary64 0xbf7acb2501ed1517 ∷ of_bits binary64 0x3fbd82a9930be0df ∷
    of_bits binary64 0x3fc06a65cf67b1c0 ∷ of_bits binary64 0x0000000000000000 ∷ of_bits binary64 0x0000000000000000 ∷ of_bits binary64 0xc0153a6b50b0f27c ∷ of_bits binary64 0x0000000000000000 ∷
    of_bits binary64 0xbfa36bfafadd8150 ∷ of_bits binary64 0xbfaffc9af0b1ae63 ∷ of_bits binary64 0x3fe8ac8a372606fb ∷ of_bits binary64 0x3f9e57b84db9c737 ∷ of_bits binary64 0x0000000000000000 ∷
    of_bits binary64 0x0000000000000000 ∷ of_bits binary64 0x0000000000000000 ∷ of_bits binary64 0x3f7be5565b815b09 ∷ of_bits binary64 0xbf71cedcc76bb9e2 ∷ of_bits binary64 0x3fb6308e3d4504ed ∷
    of_bits binary64 0x3fc4512a94ff0026 ∷ of_bits binary64 0x0000000000000000 ∷ of_bits binary64 0x0000000000000000 ∷ of_bits binary64 0x0000000000000000 ∷ of_bits binary64 0x0000000000000000 ∷
    of_bits binary64 0x0000000000000000 ∷ of_bits binary64 0x4025668db8bac711 ∷ of_bits binary64 0xbf66af2922e405a4 ∷ of_bits binary64 0x3f3c57b5afb5f6d9 ∷ of_bits binary64 0x0000000000000000 ∷
    of_bits binary64 0x3f558b62494b4d86 ∷ of_bits binary64 0xbf4537c42b57607e ∷ of_bits binary64 0x0000000000000000 ∷ of_bits binary64 0xc0360fe5c91d14e4 ∷ of_bits binary64 0xbf522774e4029e6b ∷
    of_bits binary64 0xbf4a85381ee68643 ∷ of_bits binary64 0x3f3b67f69a8cc4db ∷ of_bits binary64 0x3f719934efcbd556 ∷ of_bits binary64 0x3fb5aee7df77ca3c ∷ of_bits binary64 0x3fc5c7607c4199fe ∷
    of_bits binary64 0x0000000000000000 ∷ of_bits binary64 0x0000000000000000 ∷ of_bits binary64 0x0000000000000000 ∷ of_bits binary64 0x0000000000000000 ∷ of_bits binary64 0x0000000000000000 ∷
    of_bits binary64 0xbf708fc7dea6690b ∷ of_bits binary64 0x0000000000000000 ∷ of_bits binary64 0x0000000000000000 ∷ of_bits binary64 0x0000000000000000 ∷ of_bits binary64 0x0000000000000000 ∷
    of_bits binary64 0x0000000000000000 ∷ of_bits binary64 0x0000000000000000 ∷ of_bits binary64 0x0000000000000000 ∷ of_bits binary64 0x0000000000000000 ∷ of_bits binary64 0x0000000000000000 ∷
    of_bits binary64 0x0000000000000000 ∷ of_bits binary64 0x0000000000000000 ∷ of_bits binary64 0x0000000000000000 ∷ of_bits binary64 0x0000000000000000 ∷ of_bits binary64 0xbf4f36918c84de21 ∷
    of_bits binary64 0x3f4c0ec550e8b6f4 ∷ of_bits binary64 0x3f3c627277270f1f ∷ of_bits binary64 0x0000000000000000 ∷ of_bits binary64 0x0000000000000000 ∷ of_bits binary64 0x0000000000000000 ∷
    of_bits binary64 0x0000000000000000 ∷ of_bits binary64 0x0000000000000000 ∷ of_bits binary64 0x0000000000000000 ∷ of_bits binary64 0x0000000000000000 ∷ of_bits binary64 0x3f53dc760d227d58 ∷
    of_bits binary64 0x3f2f493dd8f5f257 ∷ of_bits binary64 0x3f4dfda1abe1c5ad ∷ of_bits binary64 0x3f5508db70d47e72 ∷ of_bits binary64 0x3f4c6e86d7864a6e ∷ of_bits binary64 0xbed78c4149ffdbf6 ∷
    of_bits binary64 0x3ff0b6113404ea4b ∷ of_bits binary64 0x40410e3bcd35a858 ∷ of_bits binary64 0x0000000000000000 ∷ of_bits binary64 0xbfeae70c1333b96b ∷ of_bits binary64 0xc06df472b020c49c ∷
    of_bits binary64 0x3fe69d0635a426bb ∷ of_bits binary64 0xc03496594af4f0d8 ∷ of_bits binary64 0xbfd746cb966be7b0 ∷ of_bits binary64 0x4037ecac083126e9 ∷ of_bits binary64 0x0000000000000000 ∷
    of_bits binary64 0xbf517984d1359233 ∷ of_bits binary64 0xbf49248305f322e7 ∷ of_bits binary64 0x3f24414cf3c60250 ∷ of_bits binary64 0x0000000000000000 ∷ of_bits binary64 0x0000000000000000 ∷
    of_bits binary64 0x0000000000000000 ∷ of_bits binary64 0x0000000000000000 ∷ of_bits binary64 0x0000000000000000 ∷ of_bits binary64 0x0000000000000000 ∷ of_bits binary64 0x4000000000000000 ∷ []

unfoldable pub ptl_t3 : List Float
ptl_t3 =
    of_bits binary64 0x3ff00d1b71758e22 ∷ of_bits binary64 0x3fa3a29fd298bea8 ∷ of_bits binary64 0xbf6393d6362d0daa ∷ of_bits binary64 0x3f6742dcf4623d0c ∷ of_bits binary64 0x3f713e0b287d21bf ∷
    of_bits binary64 0x3f4338eab5c983a0 ∷ of_bits binary64 0x3f966e5e826c566a ∷ of_bits binary64 0xbf84ac7a46edfb1b ∷ of_bits binary64 0xbf6cb176b00a9f40 ∷ of_bits binary64 0x3fa55ed725ec22d3 ∷
    of_bits binary64 0xbf814b1bdd2b3ec8 ∷ of_bits binary64 0x0000000000000000 ∷ of_bits binary64 0x0000000000000000 ∷ of_bits binary64 0x4013e0c1fc8f3238 ∷ of_bits binary64 0x0000000000000000 ∷
    of_bits binary64 0xbf7ceff570dade88 ∷ of_bits binary64 0xbf8e00812f3f88ac ∷ of_bits binary64 0x403f5367a0f9096c ∷ of_bits binary64 0xbf5e8e1556ff403d ∷ of_bits binary64 0x0000000000000000 ∷
    of_bits binary64 0xbf9126e2c2d85745 ∷ of_bits binary64 0x0000000000000000 ∷ of_bits binary64 0x0000000000000000 ∷ of_bits binary64 0x3f40ccb8cd32f090 ∷ of_bits binary64 0x3fb6308e3d4504ed ∷
    of_bits binary64 0x3fc4512a94ff0026 ∷ of_bits binary64 0xbf730324cd94c8cf ∷ of_bits binary64 0x0000000000000000 ∷ of_bits binary64 0x0000000000000000 ∷ of_bits binary64 0x0000000000000000 ∷
    of_bits binary64 0x3f71e9fa8516d5af ∷ of_bits binary64 0xc068e2353f7ced91 ∷ of_bits binary64 0x0000000000000000 ∷ of_bits binary64 0xbf75e8aa4df1d067 ∷ of_bits binary64 0x0000000000000000 ∷
    of_bits binary64 0x3f5a9dfb7e10263e ∷ of_bits binary64 0x3f6800fdabe7cfdd ∷ of_bits binary64 0x3f65f2d0c27ab95a ∷ of_bits binary64 0x408273978d4fdf3b ∷ of_bits binary64 0x0000000000000000 ∷
    of_bits binary64 0x0000000000000000 ∷ of_bits binary64 0xbf53367e165b6125 ∷ of_bits binary64 0xbf37852cd017aff5 ∷ of_bits binary64 0x3fb5aee7df77ca3c ∷ of_bits binary64 0x3fc5c7607c4199fe ∷
    of_bits binary64 0x0000000000000000 ∷ of_bits binary64 0x0000000000000000 ∷ of_bits binary64 0x3f8c66757fdedd71 ∷ of_bits binary64 0x0000000000000000 ∷ of_bits binary64 0x0000000000000000 ∷
    of_bits binary64 0x0000000000000000 ∷ of_bits binary64 0x0000000000000000 ∷ of_bits binary64 0x0000000000000000 ∷ of_bits binary64 0x0000000000000000 ∷ of_bits binary64 0x0000000000000000 ∷
    of_bits binary64 0x0000000000000000 ∷ of_bits binary64 0x0000000000000000 ∷ of_bits binary64 0x0000000000000000 ∷ of_bits binary64 0x0000000000000000 ∷ of_bits binary64 0x0000000000000000 ∷
    of_bits binary64 0x0000000000000000 ∷ of_bits binary64 0x0000000000000000 ∷ of_bits binary64 0x0000000000000000 ∷ of_bits binary64 0x0000000000000000 ∷ of_bits binary64 0x3f5a4ed5fbf58451 ∷
    of_bits binary64 0x3f4494b33c133cda ∷ of_bits binary64 0x3f0a804a42625deb ∷ of_bits binary64 0x0000000000000000 ∷ of_bits binary64 0x0000000000000000 ∷ of_bits binary64 0x0000000000000000 ∷
    of_bits binary64 0x0000000000000000 ∷ of_bits binary64 0x0000000000000000 ∷ of_bits binary64 0x0000000000000000 ∷ of_bits binary64 0x0000000000000000 ∷ of_bits binary64 0xbf59dbd3fbc02a52 ∷
    of_bits binary64 0xbf3a453b1d8d599a ∷ of_bits binary64 0x3f0a6d9b623c4d48 ∷ of_bits binary64 0xbf56c61fdf6e650d ∷ of_bits binary64 0xbf631ee0ebbda8c3 ∷ of_bits binary64 0xbf3f892560c03ccf ∷
    of_bits binary64 0x3ff77b352a843809 ∷ of_bits binary64 0x4018d0331e3a7daa ∷ of_bits binary64 0x0000000000000000 ∷ of_bits binary64 0x3fd77457c0b13598 ∷ of_bits binary64 0xc04efced916872b0 ∷
    of_bits binary64 0x3fd3c9e6687f455a ∷ of_bits binary64 0xc033e65fd8adab9f ∷ of_bits binary64 0x0000000000000000 ∷ of_bits binary64 0xc0749eed916872b0 ∷ of_bits binary64 0x0000000000000000 ∷
    of_bits binary64 0xbf520916fff6c5c5 ∷ of_bits binary64 0xbf189f9a4ad5a270 ∷ of_bits binary64 0x3f224d79495bd85d ∷ of_bits binary64 0x0000000000000000 ∷ of_bits binary64 0x0000000000000000 ∷
    of_bits binary64 0x0000000000000000 ∷ of_bits binary64 0x0000000000000000 ∷ of_bits binary64 0x0000000000000000 ∷ of_bits binary64 0x0000000000000000 ∷ of_bits binary64 0x4000000000000000 ∷ []

-- PMA. Temperatures and gradients of the lower atmosphere's nodes, one row each.
unfoldable pub pma_t0 : List Float
pma_t0 =
    of_bits binary64 0x3fef6991ff7164c7 ∷ of_bits binary64 0xbf572743bbc18ca8 ∷ of_bits binary64 0x3fa3d4b853990448 ∷ of_bits binary64 0x0000000000000000 ∷ of_bits binary64 0x0000000000000000 ∷
    of_bits binary64 0x0000000000000000 ∷ of_bits binary64 0x0000000000000000 ∷ of_bits binary64 0x0000000000000000 ∷ of_bits binary64 0x0000000000000000 ∷ of_bits binary64 0xbfa25da4f6c4eddb ∷
    of_bits binary64 0xbf81b00e2531bdbd ∷ of_bits binary64 0x0000000000000000 ∷ of_bits binary64 0x0000000000000000 ∷ of_bits binary64 0xc0002d96a6a0125a ∷ of_bits binary64 0x0000000000000000 ∷
    of_bits binary64 0xbf81ce4923b566d5 ∷ of_bits binary64 0xbf93995b863893c5 ∷ of_bits binary64 0x4055eb62b6ae7d56 ∷ of_bits binary64 0x3f728588eb768619 ∷ of_bits binary64 0x0000000000000000 ∷
    of_bits binary64 0x3f96e9bbf0dc768e ∷ of_bits binary64 0x0000000000000000 ∷ of_bits binary64 0x0000000000000000 ∷ of_bits binary64 0x0000000000000000 ∷ of_bits binary64 0x0000000000000000 ∷
    of_bits binary64 0x0000000000000000 ∷ of_bits binary64 0xbf7cfb6e1fee31f7 ∷ of_bits binary64 0x0000000000000000 ∷ of_bits binary64 0x0000000000000000 ∷ of_bits binary64 0x0000000000000000 ∷
    of_bits binary64 0xbf70d7d970493e37 ∷ of_bits binary64 0x404180c49ba5e354 ∷ of_bits binary64 0x0000000000000000 ∷ of_bits binary64 0x0000000000000000 ∷ of_bits binary64 0x0000000000000000 ∷
    of_bits binary64 0x0000000000000000 ∷ of_bits binary64 0x0000000000000000 ∷ of_bits binary64 0xbf81227e043cd096 ∷ of_bits binary64 0x4030227bb2fec56d ∷ of_bits binary64 0x0000000000000000 ∷
    of_bits binary64 0x0000000000000000 ∷ of_bits binary64 0x0000000000000000 ∷ of_bits binary64 0x0000000000000000 ∷ of_bits binary64 0x0000000000000000 ∷ of_bits binary64 0x0000000000000000 ∷
    of_bits binary64 0x0000000000000000 ∷ of_bits binary64 0x0000000000000000 ∷ of_bits binary64 0xbf8db8fde2ef4e01 ∷ of_bits binary64 0x0000000000000000 ∷ of_bits binary64 0x0000000000000000 ∷
    of_bits binary64 0x0000000000000000 ∷ of_bits binary64 0x0000000000000000 ∷ of_bits binary64 0x0000000000000000 ∷ of_bits binary64 0x0000000000000000 ∷ of_bits binary64 0x0000000000000000 ∷
    of_bits binary64 0x0000000000000000 ∷ of_bits binary64 0x0000000000000000 ∷ of_bits binary64 0x0000000000000000 ∷ of_bits binary64 0x0000000000000000 ∷ of_bits binary64 0x0000000000000000 ∷
    of_bits binary64 0x0000000000000000 ∷ of_bits binary64 0x0000000000000000 ∷ of_bits binary64 0x0000000000000000 ∷ of_bits binary64 0x0000000000000000 ∷ of_bits binary64 0x3f54574ff3077413 ∷
    of_bits binary64 0x3f4514efd133b9c1 ∷ of_bits binary64 0x0000000000000000 ∷ of_bits binary64 0x0000000000000000 ∷ of_bits binary64 0x0000000000000000 ∷ of_bits binary64 0x0000000000000000 ∷
    of_bits binary64 0x0000000000000000 ∷ of_bits binary64 0x0000000000000000 ∷ of_bits binary64 0x0000000000000000 ∷ of_bits binary64 0x0000000000000000 ∷ of_bits binary64 0x3f55d51eaae5f238 ∷
    of_bits binary64 0x3f63e0e2d95398d9 ∷ of_bits binary64 0x3f5a52d209f87c53 ∷ of_bits binary64 0xbf5e6dff37024ab3 ∷ of_bits binary64 0xbf581057910b8092 ∷ of_bits binary64 0xbed418f939a9fd3a ∷
    of_bits binary64 0x3ff398201cd5f99c ∷ of_bits binary64 0x4041aced916872b0 ∷ of_bits binary64 0x0000000000000000 ∷ of_bits binary64 0x3fdcc011d3671ac1 ∷ of_bits binary64 0xc047df9096bb98c8 ∷
    of_bits binary64 0x3fde1fa333764f12 ∷ of_bits binary64 0x4020d6540cc78e9f ∷ of_bits binary64 0xbfd271d606317269 ∷ of_bits binary64 0x4064fb53f7ced917 ∷ of_bits binary64 0x0000000000000000 ∷
    of_bits binary64 0x3f47506f954a65bb ∷ of_bits binary64 0x3f43d8263ea57999 ∷ of_bits binary64 0x0000000000000000 ∷ of_bits binary64 0x0000000000000000 ∷ of_bits binary64 0x0000000000000000 ∷
    of_bits binary64 0x0000000000000000 ∷ of_bits binary64 0x0000000000000000 ∷ of_bits binary64 0x0000000000000000 ∷ of_bits binary64 0x0000000000000000 ∷ of_bits binary64 0x4000000000000000 ∷ []

unfoldable pub pma_t1 : List Float
pma_t1 =
    of_bits binary64 0x3ff01148fd9fd36f ∷ of_bits binary64 0xbf7d21992ce23641 ∷ of_bits binary64 0x3f757b924795c0c7 ∷ of_bits binary64 0x0000000000000000 ∷ of_bits binary64 0x0000000000000000 ∷
    of_bits binary64 0x0000000000000000 ∷ of_bits binary64 0x0000000000000000 ∷ of_bits binary64 0x0000000000000000 ∷ of_bits binary64 0x0000000000000000 ∷ of_bits binary64 0xbfab1494e27ab3fb ∷
    of_bits binary64 0xbf98b58f99659734 ∷ of_bits binary64 0x0000000000000000 ∷ of_bits binary64 0x0000000000000000 ∷ of_bits binary64 0xc03538ce703afb7f ∷ of_bits binary64 0xbf8543aeab7995ee ∷
    of_bits binary64 0xbf6ae045fb61e09b ∷ of_bits binary64 0x3f90f86f120692c1 ∷ of_bits binary64 0x3ffaf861a60d4563 ∷ of_bits binary64 0xbf7b5e1a3c973510 ∷ of_bits binary64 0x0000000000000000 ∷
    of_bits binary64 0x3f8dba4d6e47dc38 ∷ of_bits binary64 0x0000000000000000 ∷ of_bits binary64 0x3f81406b2a1a85bd ∷ of_bits binary64 0x0000000000000000 ∷ of_bits binary64 0x0000000000000000 ∷
    of_bits binary64 0x0000000000000000 ∷ of_bits binary64 0xbf71cd9549a8c07e ∷ of_bits binary64 0x0000000000000000 ∷ of_bits binary64 0x0000000000000000 ∷ of_bits binary64 0x3f9632c1f42bb667 ∷
    of_bits binary64 0x0000000000000000 ∷ of_bits binary64 0xc0614eb020c49ba6 ∷ of_bits binary64 0x0000000000000000 ∷ of_bits binary64 0x0000000000000000 ∷ of_bits binary64 0x0000000000000000 ∷
    of_bits binary64 0x0000000000000000 ∷ of_bits binary64 0x0000000000000000 ∷ of_bits binary64 0x3f7cdbfbbed2b920 ∷ of_bits binary64 0xc047a902de00d1b7 ∷ of_bits binary64 0x0000000000000000 ∷
    of_bits binary64 0x0000000000000000 ∷ of_bits binary64 0x0000000000000000 ∷ of_bits binary64 0x0000000000000000 ∷ of_bits binary64 0x0000000000000000 ∷ of_bits binary64 0x0000000000000000 ∷
    of_bits binary64 0x0000000000000000 ∷ of_bits binary64 0x0000000000000000 ∷ of_bits binary64 0x3f864685f64ea656 ∷ of_bits binary64 0x0000000000000000 ∷ of_bits binary64 0x0000000000000000 ∷
    of_bits binary64 0x0000000000000000 ∷ of_bits binary64 0x0000000000000000 ∷ of_bits binary64 0x0000000000000000 ∷ of_bits binary64 0x0000000000000000 ∷ of_bits binary64 0x0000000000000000 ∷
    of_bits binary64 0x0000000000000000 ∷ of_bits binary64 0x0000000000000000 ∷ of_bits binary64 0x0000000000000000 ∷ of_bits binary64 0x0000000000000000 ∷ of_bits binary64 0xbf808db5b5aef8fc ∷
    of_bits binary64 0x0000000000000000 ∷ of_bits binary64 0x0000000000000000 ∷ of_bits binary64 0x0000000000000000 ∷ of_bits binary64 0x0000000000000000 ∷ of_bits binary64 0x3f4118ea6541abd0 ∷
    of_bits binary64 0xbf2dcdd775029ca4 ∷ of_bits binary64 0x0000000000000000 ∷ of_bits binary64 0x0000000000000000 ∷ of_bits binary64 0x0000000000000000 ∷ of_bits binary64 0x0000000000000000 ∷
    of_bits binary64 0x0000000000000000 ∷ of_bits binary64 0x0000000000000000 ∷ of_bits binary64 0x0000000000000000 ∷ of_bits binary64 0x0000000000000000 ∷ of_bits binary64 0x3f6ac4d7b5def498 ∷
    of_bits binary64 0x3f69f5e549f13ac0 ∷ of_bits binary64 0x3f3e2ad22a738ad6 ∷ of_bits binary64 0xbf1a96eb4faaf446 ∷ of_bits binary64 0x3f50bbaf4324170c ∷ of_bits binary64 0x3f50540c2cf03441 ∷
    of_bits binary64 0x3ff41cf56eac8605 ∷ of_bits binary64 0x403902eb1c432ca5 ∷ of_bits binary64 0x0000000000000000 ∷ of_bits binary64 0x3fdb2a8c9b845565 ∷ of_bits binary64 0xc03bc3f7ced91687 ∷
    of_bits binary64 0x3fd60e5604189375 ∷ of_bits binary64 0x403b8a8c154c985f ∷ of_bits binary64 0x0000000000000000 ∷ of_bits binary64 0x4088d2020c49ba5e ∷ of_bits binary64 0x0000000000000000 ∷
    of_bits binary64 0x3f6423889b449485 ∷ of_bits binary64 0x3f56c0ac0226f6ba ∷ of_bits binary64 0x0000000000000000 ∷ of_bits binary64 0x0000000000000000 ∷ of_bits binary64 0x0000000000000000 ∷
    of_bits binary64 0x0000000000000000 ∷ of_bits binary64 0x0000000000000000 ∷ of_bits binary64 0x0000000000000000 ∷ of_bits binary64 0x0000000000000000 ∷ of_bits binary64 0x4000000000000000 ∷ []

unfoldable pub pma_t2 : List Float
pma_t2 =
    of_bits binary64 0x3ff04d6a161e4f76 ∷ of_bits binary64 0xbf99408cb809c729 ∷ of_bits binary64 0x3f847ef82da3a73a ∷ of_bits binary64 0x0000000000000000 ∷ of_bits binary64 0x0000000000000000 ∷
    of_bits binary64 0x0000000000000000 ∷ of_bits binary64 0x0000000000000000 ∷ of_bits binary64 0x0000000000000000 ∷ of_bits binary64 0x0000000000000000 ∷ of_bits binary64 0xbfb12d509b230695 ∷
    of_bits binary64 0xbfa498d7d2ba4c98 ∷ of_bits binary64 0x0000000000000000 ∷ of_bits binary64 0x0000000000000000 ∷ of_bits binary64 0xc036f25460aa64c3 ∷ of_bits binary64 0xbf7e990fdbeb22ce ∷
    of_bits binary64 0x3f628fba1cc6e024 ∷ of_bits binary64 0x3f9b06caf55c380f ∷ of_bits binary64 0x4042a1999999999a ∷ of_bits binary64 0xbf7a2cd49f5418b1 ∷ of_bits binary64 0x0000000000000000 ∷
    of_bits binary64 0x3f83a0afe35d0717 ∷ of_bits binary64 0x0000000000000000 ∷ of_bits binary64 0x0000000000000000 ∷ of_bits binary64 0x0000000000000000 ∷ of_bits binary64 0x0000000000000000 ∷
    of_bits binary64 0x0000000000000000 ∷ of_bits binary64 0xbf5e5baaf68e3c43 ∷ of_bits binary64 0x0000000000000000 ∷ of_bits binary64 0x0000000000000000 ∷ of_bits binary64 0x0000000000000000 ∷
    of_bits binary64 0x0000000000000000 ∷ of_bits binary64 0x406176f1a9fbe76d ∷ of_bits binary64 0x0000000000000000 ∷ of_bits binary64 0x0000000000000000 ∷ of_bits binary64 0x0000000000000000 ∷
    of_bits binary64 0x0000000000000000 ∷ of_bits binary64 0x0000000000000000 ∷ of_bits binary64 0x3f82d63fbd2f4af1 ∷ of_bits binary64 0xc07711ef9db22d0e ∷ of_bits binary64 0x0000000000000000 ∷
    of_bits binary64 0x0000000000000000 ∷ of_bits binary64 0x0000000000000000 ∷ of_bits binary64 0x0000000000000000 ∷ of_bits binary64 0x0000000000000000 ∷ of_bits binary64 0x0000000000000000 ∷
    of_bits binary64 0x0000000000000000 ∷ of_bits binary64 0x0000000000000000 ∷ of_bits binary64 0xbf90156acb4ff50b ∷ of_bits binary64 0x0000000000000000 ∷ of_bits binary64 0x0000000000000000 ∷
    of_bits binary64 0x0000000000000000 ∷ of_bits binary64 0x0000000000000000 ∷ of_bits binary64 0x0000000000000000 ∷ of_bits binary64 0x0000000000000000 ∷ of_bits binary64 0x0000000000000000 ∷
    of_bits binary64 0x0000000000000000 ∷ of_bits binary64 0x0000000000000000 ∷ of_bits binary64 0x0000000000000000 ∷ of_bits binary64 0x0000000000000000 ∷ of_bits binary64 0xbf7cf836072309f0 ∷
    of_bits binary64 0x0000000000000000 ∷ of_bits binary64 0x0000000000000000 ∷ of_bits binary64 0x0000000000000000 ∷ of_bits binary64 0x0000000000000000 ∷ of_bits binary64 0xbf67ffab715d6561 ∷
    of_bits binary64 0xbf66c09be6fbcd15 ∷ of_bits binary64 0xbf3cd784bf4a8bc8 ∷ of_bits binary64 0x0000000000000000 ∷ of_bits binary64 0x0000000000000000 ∷ of_bits binary64 0x0000000000000000 ∷
    of_bits binary64 0x0000000000000000 ∷ of_bits binary64 0x0000000000000000 ∷ of_bits binary64 0x0000000000000000 ∷ of_bits binary64 0x0000000000000000 ∷ of_bits binary64 0x3f6441d664254386 ∷
    of_bits binary64 0x3f3355ddad19d412 ∷ of_bits binary64 0xbf5db2021b383fb7 ∷ of_bits binary64 0x3f6718d0b15ddb7d ∷ of_bits binary64 0x3f718085f7505909 ∷ of_bits binary64 0x3f5009a6249ffb10 ∷
    of_bits binary64 0x3ff67cb923a29c78 ∷ of_bits binary64 0xc018c454de7ea5f8 ∷ of_bits binary64 0x0000000000000000 ∷ of_bits binary64 0x0000000000000000 ∷ of_bits binary64 0xc053d73eab367a10 ∷
    of_bits binary64 0x3fdc7507e9d94d0e ∷ of_bits binary64 0xc079315c28f5c28f ∷ of_bits binary64 0x0000000000000000 ∷ of_bits binary64 0x40271edfa43fe5c9 ∷ of_bits binary64 0x0000000000000000 ∷
    of_bits binary64 0x3f6270049fcce475 ∷ of_bits binary64 0x3f4bce36482a5502 ∷ of_bits binary64 0xbf338fe1ac4f4b39 ∷ of_bits binary64 0x0000000000000000 ∷ of_bits binary64 0x0000000000000000 ∷
    of_bits binary64 0x0000000000000000 ∷ of_bits binary64 0x0000000000000000 ∷ of_bits binary64 0x0000000000000000 ∷ of_bits binary64 0x0000000000000000 ∷ of_bits binary64 0x4000000000000000 ∷ []

unfoldable pub pma_t3 : List Float
pma_t3 =
    of_bits binary64 0x3fef39c304ccee5b ∷ of_bits binary64 0x3fa37da61e0c5a81 ∷ of_bits binary64 0xbf9f40951b859784 ∷ of_bits binary64 0x0000000000000000 ∷ of_bits binary64 0x0000000000000000 ∷
    of_bits binary64 0x0000000000000000 ∷ of_bits binary64 0x0000000000000000 ∷ of_bits binary64 0x0000000000000000 ∷ of_bits binary64 0x0000000000000000 ∷ of_bits binary64 0x3fa3bdcf0307f23d ∷
    of_bits binary64 0x3fa9cec6a21060a0 ∷ of_bits binary64 0x0000000000000000 ∷ of_bits binary64 0x0000000000000000 ∷ of_bits binary64 0xc0660178d4fdf3b6 ∷ of_bits binary64 0x3f8d9ce3d0f5507a ∷
    of_bits binary64 0xbf584c06e9a9267f ∷ of_bits binary64 0xbf6e31436eea9966 ∷ of_bits binary64 0x403e37ef9db22d0e ∷ of_bits binary64 0xbf6a7ce3ab60966e ∷ of_bits binary64 0x0000000000000000 ∷
    of_bits binary64 0x3f8f73703a24befc ∷ of_bits binary64 0x0000000000000000 ∷ of_bits binary64 0xbf87aa9138a207fd ∷ of_bits binary64 0x0000000000000000 ∷ of_bits binary64 0x0000000000000000 ∷
    of_bits binary64 0x0000000000000000 ∷ of_bits binary64 0x3f740e09adfeab6c ∷ of_bits binary64 0x0000000000000000 ∷ of_bits binary64 0x0000000000000000 ∷ of_bits binary64 0xbf849b2d17903f7e ∷
    of_bits binary64 0xbf80d21a698db83a ∷ of_bits binary64 0xc063b8395810624e ∷ of_bits binary64 0x0000000000000000 ∷ of_bits binary64 0x0000000000000000 ∷ of_bits binary64 0x0000000000000000 ∷
    of_bits binary64 0x0000000000000000 ∷ of_bits binary64 0x0000000000000000 ∷ of_bits binary64 0x3f7b2df90c9bc4c2 ∷ of_bits binary64 0x4046eba5e353f7cf ∷ of_bits binary64 0x0000000000000000 ∷
    of_bits binary64 0x0000000000000000 ∷ of_bits binary64 0x0000000000000000 ∷ of_bits binary64 0x0000000000000000 ∷ of_bits binary64 0x0000000000000000 ∷ of_bits binary64 0x0000000000000000 ∷
    of_bits binary64 0x0000000000000000 ∷ of_bits binary64 0x0000000000000000 ∷ of_bits binary64 0xbf99bb2788db0575 ∷ of_bits binary64 0x0000000000000000 ∷ of_bits binary64 0x0000000000000000 ∷
    of_bits binary64 0x0000000000000000 ∷ of_bits binary64 0x0000000000000000 ∷ of_bits binary64 0x0000000000000000 ∷ of_bits binary64 0x0000000000000000 ∷ of_bits binary64 0x0000000000000000 ∷
    of_bits binary64 0x0000000000000000 ∷ of_bits binary64 0x0000000000000000 ∷ of_bits binary64 0x0000000000000000 ∷ of_bits binary64 0x0000000000000000 ∷ of_bits binary64 0x3f844cd240aa143b ∷
    of_bits binary64 0x0000000000000000 ∷ of_bits binary64 0x0000000000000000 ∷ of_bits binary64 0x0000000000000000 ∷ of_bits binary64 0x0000000000000000 ∷ of_bits binary64 0xbf4c9c7f0d627a5a ∷
    of_bits binary64 0xbf553dd4cccb7534 ∷ of_bits binary64 0xbf13308b1788a34b ∷ of_bits binary64 0x0000000000000000 ∷ of_bits binary64 0x0000000000000000 ∷ of_bits binary64 0x0000000000000000 ∷
    of_bits binary64 0x0000000000000000 ∷ of_bits binary64 0x0000000000000000 ∷ of_bits binary64 0x0000000000000000 ∷ of_bits binary64 0x0000000000000000 ∷ of_bits binary64 0xbf732c7d368c8407 ∷
    of_bits binary64 0xbf731665472c8f55 ∷ of_bits binary64 0xbf558e51e7d43a29 ∷ of_bits binary64 0xbf483a73ef3b0bc5 ∷ of_bits binary64 0x3f44b9c9428741b1 ∷ of_bits binary64 0xbf3e83453bc0c2cb ∷
    of_bits binary64 0xbff4c3fe5c91d14e ∷ of_bits binary64 0xc063a472b020c49c ∷ of_bits binary64 0x0000000000000000 ∷ of_bits binary64 0x3fd088ce703afb7f ∷ of_bits binary64 0xc04278ff97247454 ∷
    of_bits binary64 0x3fda4873365881a1 ∷ of_bits binary64 0x4023905d0fa58f71 ∷ of_bits binary64 0xbfc376d549731099 ∷ of_bits binary64 0xc0ae15ae147ae148 ∷ of_bits binary64 0x0000000000000000 ∷
    of_bits binary64 0xbf4bf104310984b0 ∷ of_bits binary64 0xbf5717a969f13562 ∷ of_bits binary64 0xbf47d0b90cf3d0bf ∷ of_bits binary64 0x0000000000000000 ∷ of_bits binary64 0x0000000000000000 ∷
    of_bits binary64 0x0000000000000000 ∷ of_bits binary64 0x0000000000000000 ∷ of_bits binary64 0x0000000000000000 ∷ of_bits binary64 0x0000000000000000 ∷ of_bits binary64 0x4000000000000000 ∷ []

unfoldable pub pma_t4 : List Float
pma_t4 =
    of_bits binary64 0x3feebe3c105186db ∷ of_bits binary64 0x3fb2042451eee01d ∷ of_bits binary64 0xbf9ebf4b040a50bc ∷ of_bits binary64 0x0000000000000000 ∷ of_bits binary64 0x0000000000000000 ∷
    of_bits binary64 0x0000000000000000 ∷ of_bits binary64 0x0000000000000000 ∷ of_bits binary64 0x0000000000000000 ∷ of_bits binary64 0x0000000000000000 ∷ of_bits binary64 0x3f96cd2fc91b6765 ∷
    of_bits binary64 0x3fa5037f10815783 ∷ of_bits binary64 0x0000000000000000 ∷ of_bits binary64 0x0000000000000000 ∷ of_bits binary64 0xc064623d70a3d70a ∷ of_bits binary64 0x3f85b947b4ca7788 ∷
    of_bits binary64 0x3f41b81d5717adb5 ∷ of_bits binary64 0x3f7fed736074dfd1 ∷ of_bits binary64 0x40621d0e56041893 ∷ of_bits binary64 0x3f23daf5a6d812f3 ∷ of_bits binary64 0x0000000000000000 ∷
    of_bits binary64 0x3f943a9379c4e7fc ∷ of_bits binary64 0x0000000000000000 ∷ of_bits binary64 0xbf8d0cb5f0e83508 ∷ of_bits binary64 0x0000000000000000 ∷ of_bits binary64 0x0000000000000000 ∷
    of_bits binary64 0x0000000000000000 ∷ of_bits binary64 0x3f77ab8d8cf0e9b8 ∷ of_bits binary64 0x0000000000000000 ∷ of_bits binary64 0x0000000000000000 ∷ of_bits binary64 0x3f83f43cd3450bf9 ∷
    of_bits binary64 0x0000000000000000 ∷ of_bits binary64 0xc0a6804ccccccccd ∷ of_bits binary64 0x0000000000000000 ∷ of_bits binary64 0x0000000000000000 ∷ of_bits binary64 0x0000000000000000 ∷
    of_bits binary64 0x0000000000000000 ∷ of_bits binary64 0x0000000000000000 ∷ of_bits binary64 0xbf723922b66353e2 ∷ of_bits binary64 0xc03d46a7ef9db22d ∷ of_bits binary64 0x0000000000000000 ∷
    of_bits binary64 0x0000000000000000 ∷ of_bits binary64 0x0000000000000000 ∷ of_bits binary64 0x0000000000000000 ∷ of_bits binary64 0x0000000000000000 ∷ of_bits binary64 0x0000000000000000 ∷
    of_bits binary64 0x0000000000000000 ∷ of_bits binary64 0x0000000000000000 ∷ of_bits binary64 0x3f980127476ca61c ∷ of_bits binary64 0x0000000000000000 ∷ of_bits binary64 0x0000000000000000 ∷
    of_bits binary64 0x0000000000000000 ∷ of_bits binary64 0x0000000000000000 ∷ of_bits binary64 0x0000000000000000 ∷ of_bits binary64 0x0000000000000000 ∷ of_bits binary64 0x0000000000000000 ∷
    of_bits binary64 0x0000000000000000 ∷ of_bits binary64 0x0000000000000000 ∷ of_bits binary64 0x0000000000000000 ∷ of_bits binary64 0x0000000000000000 ∷ of_bits binary64 0x3f75fb8cd3b87959 ∷
    of_bits binary64 0x0000000000000000 ∷ of_bits binary64 0x0000000000000000 ∷ of_bits binary64 0x0000000000000000 ∷ of_bits binary64 0x0000000000000000 ∷ of_bits binary64 0xbf3e7edba831e2d1 ∷
    of_bits binary64 0xbf420b00a04a1e17 ∷ of_bits binary64 0x3f35b90f55b365c9 ∷ of_bits binary64 0x0000000000000000 ∷ of_bits binary64 0x0000000000000000 ∷ of_bits binary64 0x0000000000000000 ∷
    of_bits binary64 0x0000000000000000 ∷ of_bits binary64 0x0000000000000000 ∷ of_bits binary64 0x0000000000000000 ∷ of_bits binary64 0x0000000000000000 ∷ of_bits binary64 0xbf60e3e313e1086e ∷
    of_bits binary64 0xbf6947496aad1d04 ∷ of_bits binary64 0xbf4a011b66966a99 ∷ of_bits binary64 0xbf1c79f80274684c ∷ of_bits binary64 0x3f438382227bf840 ∷ of_bits binary64 0xbf4da81c135bfd57 ∷
    of_bits binary64 0x3ff30a1dfb9389b5 ∷ of_bits binary64 0x4044cbd3c3611340 ∷ of_bits binary64 0x0000000000000000 ∷ of_bits binary64 0xbfde364bec679cc7 ∷ of_bits binary64 0xc08d993333333333 ∷
    of_bits binary64 0x3fd984ad794a6eb9 ∷ of_bits binary64 0x4033d495182a9931 ∷ of_bits binary64 0x0000000000000000 ∷ of_bits binary64 0x40ad286147ae147b ∷ of_bits binary64 0x0000000000000000 ∷
    of_bits binary64 0xbf5895223b942ac5 ∷ of_bits binary64 0xbf52d4a3b0c9b6ee ∷ of_bits binary64 0xbf248c4b74bfe7d9 ∷ of_bits binary64 0x0000000000000000 ∷ of_bits binary64 0x0000000000000000 ∷
    of_bits binary64 0x0000000000000000 ∷ of_bits binary64 0x0000000000000000 ∷ of_bits binary64 0x0000000000000000 ∷ of_bits binary64 0x0000000000000000 ∷ of_bits binary64 0x4000000000000000 ∷ []

unfoldable pub pma_t5 : List Float
pma_t5 =
    of_bits binary64 0x3ff07feb074a771d ∷ of_bits binary64 0xbfb20d19c3f66476 ∷ of_bits binary64 0x3f81d9c5d99384ad ∷ of_bits binary64 0x0000000000000000 ∷ of_bits binary64 0x0000000000000000 ∷
    of_bits binary64 0x0000000000000000 ∷ of_bits binary64 0x0000000000000000 ∷ of_bits binary64 0x0000000000000000 ∷ of_bits binary64 0x0000000000000000 ∷ of_bits binary64 0xbfa39717085a4195 ∷
    of_bits binary64 0xbf8417225b749add ∷ of_bits binary64 0x0000000000000000 ∷ of_bits binary64 0x0000000000000000 ∷ of_bits binary64 0x403cedb8bac710cb ∷ of_bits binary64 0x3f839b3956e3bc7d ∷
    of_bits binary64 0x0000000000000000 ∷ of_bits binary64 0x0000000000000000 ∷ of_bits binary64 0x4055a76113404ea5 ∷ of_bits binary64 0x3f49f341e7bd2449 ∷ of_bits binary64 0x0000000000000000 ∷
    of_bits binary64 0x0000000000000000 ∷ of_bits binary64 0x0000000000000000 ∷ of_bits binary64 0x3f7334f37cb9e4e9 ∷ of_bits binary64 0x0000000000000000 ∷ of_bits binary64 0x0000000000000000 ∷
    of_bits binary64 0x0000000000000000 ∷ of_bits binary64 0x3f801c3fa6b4095c ∷ of_bits binary64 0x0000000000000000 ∷ of_bits binary64 0x0000000000000000 ∷ of_bits binary64 0x3f844ac97ce12722 ∷
    of_bits binary64 0x0000000000000000 ∷ of_bits binary64 0x405063aacd9e83e4 ∷ of_bits binary64 0x0000000000000000 ∷ of_bits binary64 0x0000000000000000 ∷ of_bits binary64 0x0000000000000000 ∷
    of_bits binary64 0x0000000000000000 ∷ of_bits binary64 0x0000000000000000 ∷ of_bits binary64 0x0000000000000000 ∷ of_bits binary64 0xc044028f5c28f5c3 ∷ of_bits binary64 0x0000000000000000 ∷
    of_bits binary64 0x0000000000000000 ∷ of_bits binary64 0x0000000000000000 ∷ of_bits binary64 0x0000000000000000 ∷ of_bits binary64 0x0000000000000000 ∷ of_bits binary64 0x0000000000000000 ∷
    of_bits binary64 0x0000000000000000 ∷ of_bits binary64 0x0000000000000000 ∷ of_bits binary64 0x3f7cfa396c883e7d ∷ of_bits binary64 0x0000000000000000 ∷ of_bits binary64 0x0000000000000000 ∷
    of_bits binary64 0x0000000000000000 ∷ of_bits binary64 0x0000000000000000 ∷ of_bits binary64 0x0000000000000000 ∷ of_bits binary64 0x0000000000000000 ∷ of_bits binary64 0x0000000000000000 ∷
    of_bits binary64 0x0000000000000000 ∷ of_bits binary64 0x0000000000000000 ∷ of_bits binary64 0x0000000000000000 ∷ of_bits binary64 0x0000000000000000 ∷ of_bits binary64 0x3f7770aa3720a897 ∷
    of_bits binary64 0x0000000000000000 ∷ of_bits binary64 0x0000000000000000 ∷ of_bits binary64 0x0000000000000000 ∷ of_bits binary64 0x0000000000000000 ∷ of_bits binary64 0xbf2adda6e4b0c42e ∷
    of_bits binary64 0x3f53ea988fae5e4d ∷ of_bits binary64 0xbee0e4eb58d45995 ∷ of_bits binary64 0x0000000000000000 ∷ of_bits binary64 0x0000000000000000 ∷ of_bits binary64 0x0000000000000000 ∷
    of_bits binary64 0x0000000000000000 ∷ of_bits binary64 0x0000000000000000 ∷ of_bits binary64 0x0000000000000000 ∷ of_bits binary64 0x0000000000000000 ∷ of_bits binary64 0xbf6479a486b28c2f ∷
    of_bits binary64 0xbf3df77b90decec7 ∷ of_bits binary64 0xbf24e19711dd80ad ∷ of_bits binary64 0x3f336e2032ea26ea ∷ of_bits binary64 0xbf5d0d418708f344 ∷ of_bits binary64 0xbf44e73e7948a775 ∷
    of_bits binary64 0x3ff06219652bd3c3 ∷ of_bits binary64 0x4029a26809d49518 ∷ of_bits binary64 0x0000000000000000 ∷ of_bits binary64 0x3fc33005814940bc ∷ of_bits binary64 0xc03a61bda5119ce0 ∷
    of_bits binary64 0x0000000000000000 ∷ of_bits binary64 0x40478809d495182b ∷ of_bits binary64 0xbfcc6f0cfe154435 ∷ of_bits binary64 0x3fa8b17f696cab24 ∷ of_bits binary64 0x0000000000000000 ∷
    of_bits binary64 0xbf4c698d6253b22f ∷ of_bits binary64 0xbf4337be0ff924f8 ∷ of_bits binary64 0x3f41729d702ca798 ∷ of_bits binary64 0x0000000000000000 ∷ of_bits binary64 0x0000000000000000 ∷
    of_bits binary64 0x0000000000000000 ∷ of_bits binary64 0x0000000000000000 ∷ of_bits binary64 0x0000000000000000 ∷ of_bits binary64 0x0000000000000000 ∷ of_bits binary64 0x4000000000000000 ∷ []

unfoldable pub pma_t6 : List Float
pma_t6 =
    of_bits binary64 0x3ff021ea35935fc4 ∷ of_bits binary64 0xbfb74e6c749d60ce ∷ of_bits binary64 0xbf9732d89a6068f6 ∷ of_bits binary64 0x0000000000000000 ∷ of_bits binary64 0x0000000000000000 ∷
    of_bits binary64 0x0000000000000000 ∷ of_bits binary64 0x0000000000000000 ∷ of_bits binary64 0x0000000000000000 ∷ of_bits binary64 0x0000000000000000 ∷ of_bits binary64 0xbf97ccc037931444 ∷
    of_bits binary64 0xbf829d627bf61aa4 ∷ of_bits binary64 0x0000000000000000 ∷ of_bits binary64 0x0000000000000000 ∷ of_bits binary64 0x4040ce24dd2f1aa0 ∷ of_bits binary64 0x0000000000000000 ∷
    of_bits binary64 0x0000000000000000 ∷ of_bits binary64 0x0000000000000000 ∷ of_bits binary64 0xc028fdcc63f14120 ∷ of_bits binary64 0xbf7814fcbc53add2 ∷ of_bits binary64 0x0000000000000000 ∷
    of_bits binary64 0x0000000000000000 ∷ of_bits binary64 0x0000000000000000 ∷ of_bits binary64 0x0000000000000000 ∷ of_bits binary64 0x0000000000000000 ∷ of_bits binary64 0x0000000000000000 ∷
    of_bits binary64 0x0000000000000000 ∷ of_bits binary64 0x0000000000000000 ∷ of_bits binary64 0x0000000000000000 ∷ of_bits binary64 0x0000000000000000 ∷ of_bits binary64 0x0000000000000000 ∷
    of_bits binary64 0x0000000000000000 ∷ of_bits binary64 0x403bf9fbe76c8b44 ∷ of_bits binary64 0x0000000000000000 ∷ of_bits binary64 0x0000000000000000 ∷ of_bits binary64 0x0000000000000000 ∷
    of_bits binary64 0x0000000000000000 ∷ of_bits binary64 0x0000000000000000 ∷ of_bits binary64 0x0000000000000000 ∷ of_bits binary64 0x409f717ae147ae14 ∷ of_bits binary64 0x0000000000000000 ∷
    of_bits binary64 0x0000000000000000 ∷ of_bits binary64 0x0000000000000000 ∷ of_bits binary64 0x0000000000000000 ∷ of_bits binary64 0x0000000000000000 ∷ of_bits binary64 0x0000000000000000 ∷
    of_bits binary64 0x0000000000000000 ∷ of_bits binary64 0x0000000000000000 ∷ of_bits binary64 0xbf91fa043d7c6251 ∷ of_bits binary64 0x0000000000000000 ∷ of_bits binary64 0x0000000000000000 ∷
    of_bits binary64 0x0000000000000000 ∷ of_bits binary64 0x0000000000000000 ∷ of_bits binary64 0x0000000000000000 ∷ of_bits binary64 0x0000000000000000 ∷ of_bits binary64 0x0000000000000000 ∷
    of_bits binary64 0x0000000000000000 ∷ of_bits binary64 0x0000000000000000 ∷ of_bits binary64 0x0000000000000000 ∷ of_bits binary64 0x0000000000000000 ∷ of_bits binary64 0x0000000000000000 ∷
    of_bits binary64 0x0000000000000000 ∷ of_bits binary64 0x0000000000000000 ∷ of_bits binary64 0x0000000000000000 ∷ of_bits binary64 0x0000000000000000 ∷ of_bits binary64 0x3f6b024a07352881 ∷
    of_bits binary64 0x3f54c076a827fcc9 ∷ of_bits binary64 0x3f319709cfeb17ef ∷ of_bits binary64 0x0000000000000000 ∷ of_bits binary64 0x0000000000000000 ∷ of_bits binary64 0x0000000000000000 ∷
    of_bits binary64 0x0000000000000000 ∷ of_bits binary64 0x0000000000000000 ∷ of_bits binary64 0x0000000000000000 ∷ of_bits binary64 0x0000000000000000 ∷ of_bits binary64 0x3f5350d52f9cd0b1 ∷
    of_bits binary64 0x3f585edc03768212 ∷ of_bits binary64 0x3f1be99e1c68c9f7 ∷ of_bits binary64 0x3f21a9398e85d90c ∷ of_bits binary64 0xbf62196d39695833 ∷ of_bits binary64 0xbf446e7d7257c778 ∷
    of_bits binary64 0x3fe45e8709741d08 ∷ of_bits binary64 0x4026b9652bd3c361 ∷ of_bits binary64 0x0000000000000000 ∷ of_bits binary64 0xbfd933a4723aafff ∷ of_bits binary64 0x40a2a5bd70a3d70a ∷
    of_bits binary64 0x0000000000000000 ∷ of_bits binary64 0x4084aeeb851eb852 ∷ of_bits binary64 0xbfbf164c729f59cd ∷ of_bits binary64 0x40228d5a5b9628cc ∷ of_bits binary64 0x0000000000000000 ∷
    of_bits binary64 0x3f26152f000c840c ∷ of_bits binary64 0x3f547659a38a5e3d ∷ of_bits binary64 0x3f5c12baeda737e8 ∷ of_bits binary64 0x0000000000000000 ∷ of_bits binary64 0x0000000000000000 ∷
    of_bits binary64 0x0000000000000000 ∷ of_bits binary64 0x0000000000000000 ∷ of_bits binary64 0x0000000000000000 ∷ of_bits binary64 0x0000000000000000 ∷ of_bits binary64 0x4000000000000000 ∷ []

unfoldable pub pma_t7 : List Float
pma_t7 =
    of_bits binary64 0x3ff92ab8a5ce5b42 ∷ of_bits binary64 0xbfe5b573eab367a1 ∷ of_bits binary64 0x3fe4b851eb851eb8 ∷ of_bits binary64 0x0000000000000000 ∷ of_bits binary64 0x0000000000000000 ∷
    of_bits binary64 0x0000000000000000 ∷ of_bits binary64 0x0000000000000000 ∷ of_bits binary64 0x0000000000000000 ∷ of_bits binary64 0x0000000000000000 ∷ of_bits binary64 0xbfb38839f5c5139b ∷
    of_bits binary64 0xbfd7112ba16e7a31 ∷ of_bits binary64 0x0000000000000000 ∷ of_bits binary64 0x0000000000000000 ∷ of_bits binary64 0x40600b74bc6a7efa ∷ of_bits binary64 0x0000000000000000 ∷
    of_bits binary64 0x0000000000000000 ∷ of_bits binary64 0x0000000000000000 ∷ of_bits binary64 0x404766e2eb1c432d ∷ of_bits binary64 0x0000000000000000 ∷ of_bits binary64 0x0000000000000000 ∷
    of_bits binary64 0x0000000000000000 ∷ of_bits binary64 0x0000000000000000 ∷ of_bits binary64 0x0000000000000000 ∷ of_bits binary64 0x0000000000000000 ∷ of_bits binary64 0x0000000000000000 ∷
    of_bits binary64 0x0000000000000000 ∷ of_bits binary64 0xbfc57dae81882adc ∷ of_bits binary64 0x0000000000000000 ∷ of_bits binary64 0x0000000000000000 ∷ of_bits binary64 0x0000000000000000 ∷
    of_bits binary64 0x0000000000000000 ∷ of_bits binary64 0x40dc6ad99999999a ∷ of_bits binary64 0x0000000000000000 ∷ of_bits binary64 0x0000000000000000 ∷ of_bits binary64 0x0000000000000000 ∷
    of_bits binary64 0x0000000000000000 ∷ of_bits binary64 0x0000000000000000 ∷ of_bits binary64 0x0000000000000000 ∷ of_bits binary64 0x403f9212d77318fc ∷ of_bits binary64 0x0000000000000000 ∷
    of_bits binary64 0x0000000000000000 ∷ of_bits binary64 0x0000000000000000 ∷ of_bits binary64 0x0000000000000000 ∷ of_bits binary64 0x0000000000000000 ∷ of_bits binary64 0x0000000000000000 ∷
    of_bits binary64 0x0000000000000000 ∷ of_bits binary64 0x0000000000000000 ∷ of_bits binary64 0x0000000000000000 ∷ of_bits binary64 0x0000000000000000 ∷ of_bits binary64 0x0000000000000000 ∷
    of_bits binary64 0x0000000000000000 ∷ of_bits binary64 0x0000000000000000 ∷ of_bits binary64 0x0000000000000000 ∷ of_bits binary64 0x0000000000000000 ∷ of_bits binary64 0x0000000000000000 ∷
    of_bits binary64 0x0000000000000000 ∷ of_bits binary64 0x0000000000000000 ∷ of_bits binary64 0x0000000000000000 ∷ of_bits binary64 0x0000000000000000 ∷ of_bits binary64 0x0000000000000000 ∷
    of_bits binary64 0x0000000000000000 ∷ of_bits binary64 0x0000000000000000 ∷ of_bits binary64 0x0000000000000000 ∷ of_bits binary64 0x0000000000000000 ∷ of_bits binary64 0x0000000000000000 ∷
    of_bits binary64 0x0000000000000000 ∷ of_bits binary64 0x0000000000000000 ∷ of_bits binary64 0x0000000000000000 ∷ of_bits binary64 0x0000000000000000 ∷ of_bits binary64 0x0000000000000000 ∷
    of_bits binary64 0x0000000000000000 ∷ of_bits binary64 0x0000000000000000 ∷ of_bits binary64 0x0000000000000000 ∷ of_bits binary64 0x0000000000000000 ∷ of_bits binary64 0x0000000000000000 ∷
    of_bits binary64 0x0000000000000000 ∷ of_bits binary64 0x0000000000000000 ∷ of_bits binary64 0x0000000000000000 ∷ of_bits binary64 0x0000000000000000 ∷ of_bits binary64 0x0000000000000000 ∷
    of_bits binary64 0x0000000000000000 ∷ of_bits binary64 0x0000000000000000 ∷ of_bits binary64 0x0000000000000000 ∷ of_bits binary64 0x0000000000000000 ∷ of_bits binary64 0x0000000000000000 ∷
    of_bits binary64 0x0000000000000000 ∷ of_bits binary64 0x0000000000000000 ∷ of_bits binary64 0x0000000000000000 ∷ of_bits binary64 0x0000000000000000 ∷ of_bits binary64 0x0000000000000000 ∷
    of_bits binary64 0x0000000000000000 ∷ of_bits binary64 0x0000000000000000 ∷ of_bits binary64 0x0000000000000000 ∷ of_bits binary64 0x0000000000000000 ∷ of_bits binary64 0x0000000000000000 ∷
    of_bits binary64 0x0000000000000000 ∷ of_bits binary64 0x0000000000000000 ∷ of_bits binary64 0x0000000000000000 ∷ of_bits binary64 0x0000000000000000 ∷ of_bits binary64 0x4000000000000000 ∷ []

unfoldable pub pma_t8 : List Float
pma_t8 =
    of_bits binary64 0x3feb855970b49e02 ∷ of_bits binary64 0x3fd8219eb6390c91 ∷ of_bits binary64 0x0000000000000000 ∷ of_bits binary64 0x0000000000000000 ∷ of_bits binary64 0x0000000000000000 ∷
    of_bits binary64 0x0000000000000000 ∷ of_bits binary64 0x0000000000000000 ∷ of_bits binary64 0x0000000000000000 ∷ of_bits binary64 0x0000000000000000 ∷ of_bits binary64 0xbff2cfaacd9e83e4 ∷
    of_bits binary64 0x0000000000000000 ∷ of_bits binary64 0x0000000000000000 ∷ of_bits binary64 0x0000000000000000 ∷ of_bits binary64 0x3f7fdb5f8cad77f3 ∷ of_bits binary64 0x0000000000000000 ∷
    of_bits binary64 0x0000000000000000 ∷ of_bits binary64 0x0000000000000000 ∷ of_bits binary64 0x40594189374bc6a8 ∷ of_bits binary64 0x0000000000000000 ∷ of_bits binary64 0x0000000000000000 ∷
    of_bits binary64 0x0000000000000000 ∷ of_bits binary64 0x0000000000000000 ∷ of_bits binary64 0x0000000000000000 ∷ of_bits binary64 0x0000000000000000 ∷ of_bits binary64 0x0000000000000000 ∷
    of_bits binary64 0x0000000000000000 ∷ of_bits binary64 0x0000000000000000 ∷ of_bits binary64 0x0000000000000000 ∷ of_bits binary64 0x0000000000000000 ∷ of_bits binary64 0x0000000000000000 ∷
    of_bits binary64 0x0000000000000000 ∷ of_bits binary64 0x408472020c49ba5e ∷ of_bits binary64 0x0000000000000000 ∷ of_bits binary64 0x0000000000000000 ∷ of_bits binary64 0x0000000000000000 ∷
    of_bits binary64 0x0000000000000000 ∷ of_bits binary64 0x0000000000000000 ∷ of_bits binary64 0x0000000000000000 ∷ of_bits binary64 0x0000000000000000 ∷ of_bits binary64 0x0000000000000000 ∷
    of_bits binary64 0x0000000000000000 ∷ of_bits binary64 0x0000000000000000 ∷ of_bits binary64 0x0000000000000000 ∷ of_bits binary64 0x0000000000000000 ∷ of_bits binary64 0x0000000000000000 ∷
    of_bits binary64 0x0000000000000000 ∷ of_bits binary64 0x0000000000000000 ∷ of_bits binary64 0x0000000000000000 ∷ of_bits binary64 0x0000000000000000 ∷ of_bits binary64 0x0000000000000000 ∷
    of_bits binary64 0x0000000000000000 ∷ of_bits binary64 0x0000000000000000 ∷ of_bits binary64 0x0000000000000000 ∷ of_bits binary64 0x0000000000000000 ∷ of_bits binary64 0x0000000000000000 ∷
    of_bits binary64 0x0000000000000000 ∷ of_bits binary64 0x0000000000000000 ∷ of_bits binary64 0x0000000000000000 ∷ of_bits binary64 0x0000000000000000 ∷ of_bits binary64 0x0000000000000000 ∷
    of_bits binary64 0x0000000000000000 ∷ of_bits binary64 0x0000000000000000 ∷ of_bits binary64 0x0000000000000000 ∷ of_bits binary64 0x0000000000000000 ∷ of_bits binary64 0x0000000000000000 ∷
    of_bits binary64 0x0000000000000000 ∷ of_bits binary64 0x0000000000000000 ∷ of_bits binary64 0x0000000000000000 ∷ of_bits binary64 0x0000000000000000 ∷ of_bits binary64 0x0000000000000000 ∷
    of_bits binary64 0x0000000000000000 ∷ of_bits binary64 0x0000000000000000 ∷ of_bits binary64 0x0000000000000000 ∷ of_bits binary64 0x0000000000000000 ∷ of_bits binary64 0xbf90129604b9a324 ∷
    of_bits binary64 0x3f938efa0366bccd ∷ of_bits binary64 0x3fa02d7ebe4c008a ∷ of_bits binary64 0x3f84ae5d75fcdc5f ∷ of_bits binary64 0xbf7b81de91f12eac ∷ of_bits binary64 0x3f651c36c25edfb4 ∷
    of_bits binary64 0x3ff630d306a2b170 ∷ of_bits binary64 0x3fd20e736049ecb3 ∷ of_bits binary64 0x0000000000000000 ∷ of_bits binary64 0x0000000000000000 ∷ of_bits binary64 0x4077d82d0e560419 ∷
    of_bits binary64 0x0000000000000000 ∷ of_bits binary64 0x0000000000000000 ∷ of_bits binary64 0x0000000000000000 ∷ of_bits binary64 0x0000000000000000 ∷ of_bits binary64 0x0000000000000000 ∷
    of_bits binary64 0x0000000000000000 ∷ of_bits binary64 0x0000000000000000 ∷ of_bits binary64 0x0000000000000000 ∷ of_bits binary64 0x0000000000000000 ∷ of_bits binary64 0x0000000000000000 ∷
    of_bits binary64 0x0000000000000000 ∷ of_bits binary64 0x0000000000000000 ∷ of_bits binary64 0x0000000000000000 ∷ of_bits binary64 0x0000000000000000 ∷ of_bits binary64 0x4000000000000000 ∷ []

unfoldable pub pma_t9 : List Float
pma_t9 =
    of_bits binary64 0x3ff0f6f2a5a469d7 ∷ of_bits binary64 0xbfaae44ec991aeea ∷ of_bits binary64 0x3fd7dfc9ff92f2b6 ∷ of_bits binary64 0x0000000000000000 ∷ of_bits binary64 0x0000000000000000 ∷
    of_bits binary64 0x0000000000000000 ∷ of_bits binary64 0x0000000000000000 ∷ of_bits binary64 0x0000000000000000 ∷ of_bits binary64 0x0000000000000000 ∷ of_bits binary64 0x3fa0f36d4a863610 ∷
    of_bits binary64 0xbfd8dbb16c1e364c ∷ of_bits binary64 0x0000000000000000 ∷ of_bits binary64 0x0000000000000000 ∷ of_bits binary64 0xc064a970a3d70a3d ∷ of_bits binary64 0xbfcb5dd4c76d117b ∷
    of_bits binary64 0xbfa678f5b52362dc ∷ of_bits binary64 0xbfd4a76102795704 ∷ of_bits binary64 0xc0560f50b0f27bb3 ∷ of_bits binary64 0x3fbe534373f316e3 ∷ of_bits binary64 0x0000000000000000 ∷
    of_bits binary64 0xbfdbe52deca2552a ∷ of_bits binary64 0x0000000000000000 ∷ of_bits binary64 0x0000000000000000 ∷ of_bits binary64 0x0000000000000000 ∷ of_bits binary64 0x0000000000000000 ∷
    of_bits binary64 0x0000000000000000 ∷ of_bits binary64 0xbfbeaa087ca643cc ∷ of_bits binary64 0x0000000000000000 ∷ of_bits binary64 0x0000000000000000 ∷ of_bits binary64 0x0000000000000000 ∷
    of_bits binary64 0x0000000000000000 ∷ of_bits binary64 0x403a390ff9724745 ∷ of_bits binary64 0x0000000000000000 ∷ of_bits binary64 0x0000000000000000 ∷ of_bits binary64 0x0000000000000000 ∷
    of_bits binary64 0x0000000000000000 ∷ of_bits binary64 0x0000000000000000 ∷ of_bits binary64 0x0000000000000000 ∷ of_bits binary64 0xc04adf4538ef34d7 ∷ of_bits binary64 0x0000000000000000 ∷
    of_bits binary64 0x0000000000000000 ∷ of_bits binary64 0x0000000000000000 ∷ of_bits binary64 0x0000000000000000 ∷ of_bits binary64 0x0000000000000000 ∷ of_bits binary64 0x0000000000000000 ∷
    of_bits binary64 0x0000000000000000 ∷ of_bits binary64 0x0000000000000000 ∷ of_bits binary64 0xbfdd2ba16e7a311f ∷ of_bits binary64 0x0000000000000000 ∷ of_bits binary64 0x0000000000000000 ∷
    of_bits binary64 0x0000000000000000 ∷ of_bits binary64 0x0000000000000000 ∷ of_bits binary64 0x0000000000000000 ∷ of_bits binary64 0x0000000000000000 ∷ of_bits binary64 0x0000000000000000 ∷
    of_bits binary64 0x0000000000000000 ∷ of_bits binary64 0x0000000000000000 ∷ of_bits binary64 0x0000000000000000 ∷ of_bits binary64 0x0000000000000000 ∷ of_bits binary64 0x0000000000000000 ∷
    of_bits binary64 0x0000000000000000 ∷ of_bits binary64 0x0000000000000000 ∷ of_bits binary64 0x0000000000000000 ∷ of_bits binary64 0x0000000000000000 ∷ of_bits binary64 0x3fa3a94863462076 ∷
    of_bits binary64 0x3fa4500f0c0c7dbd ∷ of_bits binary64 0x0000000000000000 ∷ of_bits binary64 0x0000000000000000 ∷ of_bits binary64 0x0000000000000000 ∷ of_bits binary64 0x0000000000000000 ∷
    of_bits binary64 0x0000000000000000 ∷ of_bits binary64 0x0000000000000000 ∷ of_bits binary64 0x0000000000000000 ∷ of_bits binary64 0x0000000000000000 ∷ of_bits binary64 0x3fa9e19c67aa3345 ∷
    of_bits binary64 0x3fb2ef276aa81487 ∷ of_bits binary64 0x3f93ae685db76b3c ∷ of_bits binary64 0xbf815444a5cc57dd ∷ of_bits binary64 0xbf8b7e4077bf543e ∷ of_bits binary64 0x3f941ae20395b6b6 ∷
    of_bits binary64 0x3ff8113e81450efe ∷ of_bits binary64 0x4032d63886594af5 ∷ of_bits binary64 0x0000000000000000 ∷ of_bits binary64 0x0000000000000000 ∷ of_bits binary64 0xc049a7dbf487fcb9 ∷
    of_bits binary64 0x0000000000000000 ∷ of_bits binary64 0x0000000000000000 ∷ of_bits binary64 0x0000000000000000 ∷ of_bits binary64 0x0000000000000000 ∷ of_bits binary64 0x0000000000000000 ∷
    of_bits binary64 0x3faa35e08c9d31d5 ∷ of_bits binary64 0x3fa27ea5f84cad58 ∷ of_bits binary64 0x0000000000000000 ∷ of_bits binary64 0x0000000000000000 ∷ of_bits binary64 0x0000000000000000 ∷
    of_bits binary64 0x0000000000000000 ∷ of_bits binary64 0x0000000000000000 ∷ of_bits binary64 0x0000000000000000 ∷ of_bits binary64 0x0000000000000000 ∷ of_bits binary64 0x4000000000000000 ∷ []

-- PAVGM. Mean temperatures and gradients of the lower atmosphere.
unfoldable pub pavgm_t : List Float
pavgm_t =
    of_bits binary64 0x4070500000000000 ∷ of_bits binary64 0x4070800000000000 ∷ of_bits binary64 0x406ca00000000000 ∷ of_bits binary64 0x406b200000000000 ∷ of_bits binary64 0x406b200000000000 ∷
    of_bits binary64 0x406be00000000000 ∷ of_bits binary64 0x4071ec28f5c28f5c ∷ of_bits binary64 0xc00783e425aee632 ∷ of_bits binary64 0x4004000000000000 ∷ of_bits binary64 0x0000000000000000 ∷ []
