mod NearMisses
